use Rattle.std.proofs.Common.{ap, sym, ◌∙◌, arith}
use Rattle.std.specs.Option.{option_copied}
use Rattle.messages.proofs.Rows.{sound_last, sound_none, sound_whole}
use Rattle.messages.proofs.prefix.PrefixBytes.is_sound.Goals as goal

pub returns-in-Some : goal.returns-in-Some
returns-in-Some c =
    sound_last c.args.self.now.bytes.now c.in-Some.last.now c.args.self.now.length
    (sym c.last.ensures.value ∙ ap option_copied c.in-Some.is) c.args.self.now.whole c.if-used-gt0.true

pub returns-in_default : goal.returns-in_default
returns-in_default c =
    let none = c.if-used-gt0.false in
    sound_whole c.args.self.now.bytes.now c.args.self.now.length c.args.self.now.whole (omega arith)

pub returns-in_default-2 : goal.returns-in_default-2
returns-in_default-2 c = sound_none c.args.self.now.bytes.now c.args.self.now.length (sym c.last.ensures.value ∙ ap option_copied c.in_default.is)
