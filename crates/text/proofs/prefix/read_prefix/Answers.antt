use Rattle.std.proofs.Common.{◌+◌, length, take, sym, refl, ◌∙◌, subst, arith, length-take}
use Rattle.std.proofs.lemmas.List.{take_rest}
use Rattle.std.proofs.lemmas.Result.{err_from_is_err_and}
use Rattle.text.specs.Stuck.{Stuck}
use Rattle.text.specs.Slashed.{length_text}
use Rattle.text.proofs.Slashes.{Refusal, without, no_address, no_length, prefix_reads, same_parts, written}
use Rattle.text.proofs.Further.{behind_ok, behind_err}
use Rattle.text.proofs.prefix.read_prefix.Goals as goal

pub returns-in_default : goal.returns-in_default
returns-in_default g c =
    let reads = g.A.AddressText.reads in
    let xs = c.args.text.now in
    let f = without reads xs (length xs) (omega arith) c.in_default.ensures (λ a r. refl) in
    record {
      value = (f.within, f.none);
      back = λ a l small e. f.none a l (written reads xs a (g.A.AddressText.spelled a) l (g.met.A.AddressText.back a) small e);
      stop = f.stop;
    }

pub returns-in_err-read : goal.returns-in_err-read
returns-in_err-read g c =
    let reads = g.A.AddressText.reads in
    let xs = c.args.text.now in
    let s = c.in_err-read.ensures in
    let f = without reads xs c.in_err-read.field-0.0.place s.0 c.in_default.ensures (λ a r. absurd (s.1 a r)) in
    let p = err_from_is_err_and c.from_residual.result c.from_residual.ensures.1 in
    rw (p.1, p.2) record {
      value = (f.within, f.none);
      back = λ a l small e. f.none a l (written reads xs a (g.A.AddressText.spelled a) l (g.met.A.AddressText.back a) small e);
      stop = f.stop;
    }

pub returns-in_err-address : goal.returns-in_err-address
returns-in_err-address g c =
    let reads = g.A.AddressText.reads in
    let xs = c.args.text.now in
    let i = c.in-Some.slash in
    let s = c.in_err-address.ensures in
    let f = no_address reads xs i c.in-Some.ensures c.in_err-address.field-0.0.place
    (omega (arith, s.0, length-take i xs))
    (λ a r. s.1 a r) in
    let p = err_from_is_err_and c.from_residual-in_err-address.result c.from_residual-in_err-address.ensures.1 in
    rw (p.1, p.2) record {
      value = (f.within, f.none);
      back = λ a l small e. f.none a l (written reads xs a (g.A.AddressText.spelled a) l (g.met.A.AddressText.back a) small e);
      stop = f.stop;
    }

pub returns-in_err-length : goal.returns-in_err-length
returns-in_err-length g c =
    let reads = g.A.AddressText.reads in
    let xs = c.args.text.now in
    let i = c.in-Some.slash in
    let q = behind_err (i + 1) _ _ c.read_length.result c.in_err-length.field-0.0 c.read_length.ensures c.in_err-length.ensures in
    let f = subst (Refusal reads xs) (sym q.2)
    (no_length reads xs i c.in-Some.ensures c.in_ok-address.address
    c.in_ok-address.ensures
    q.0.place (subst (λ s. Stuck length_text s q.0.place) (take_rest xs (i + 1)) q.1)) in
    let p = err_from_is_err_and c.from_residual-in_err-length.result c.from_residual-in_err-length.ensures.1 in
    rw (p.1, p.2) record {
      value = (f.within, f.none);
      back = λ a l small e. f.none a l (written reads xs a (g.A.AddressText.spelled a) l (g.met.A.AddressText.back a) small e);
      stop = f.stop;
    }

pub returns : goal.returns
returns g c =
    let reads = g.A.AddressText.reads in
    let xs = c.args.text.now in
    let i = c.in-Some.slash in
    let h = c.in-Some.ensures in
    let p = behind_ok (i + 1) _ _ c.read_length.result c.in_ok-length.length c.read_length.ensures c.in_ok-length.ensures in
    let is = prefix_reads reads xs i h c.in_ok-address.address
    c.in_ok-address.ensures
    c.in_ok-length.length (sym (take_rest xs (i + 1)) ∙ p.0) p.1 in
    record {
      value = is;
      back = λ a l small e.
          let q = written reads xs a (g.A.AddressText.spelled a) l (g.met.A.AddressText.back a) small e in
          let same = same_parts reads xs c.in_ok-address.address a c.in_ok-length.length l is q i h in
          (g.met.A.AddressText.one (take i xs) c.in_ok-address.address a same.1 same.2, same.0);
      stop = tt;
    }
