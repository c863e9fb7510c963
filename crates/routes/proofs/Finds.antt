-- What stands at the place of a prefix in a list of routes, and how a search by halves finds that place.
use Rattle.std.proofs.Common.{◌≡◌, ℕ, zero, suc, ◌+◌, ◌<◌, ◌≤◌, List, [], ◌∷◌, ◌++◌, Bool, cond, map, length, get_or, take, drop, set, nat_lt, Option, IfSome, Bor, Some, None, Ok, Err, Result, Ordering, Less, Equal, Greater, MatchResult, leb, sym, refl, ap, ◌∙◌, ap₂, add-one, arith}
use lib.ListN.{length-map}
use lib.Seq.{set_split}
use Rattle.std.proofs.lemmas.List.{drop_more, drop_all, get_or-map, map-append, map-set, take-map, drop-map}
use Rattle.std.proofs.lemmas.List.{length-take-le}
use Rattle.std.proofs.lemmas.Bool.{leb-true, leb-false, ltb-true, ltb-false}
use Rattle.std.specs.List.{insert, remove, AllByRecursion}
use Rattle.std.specs.List.Sorted.{IsSearchInRange, IsBinarySearchResult, IsNonDecreasingBy}
use Rattle.std.specs.Option.{is_some, option_map, option_copied}
use Rattle.std.specs.Ordering.{ordering_index}
use Rattle.address.specs.declared.Address.{Ghosts}
use Rattle.bits.specs.Rows.{Bits}
use Rattle.bits.specs.Order.{order, flipped, same, Sound}
use Rattle.bits.proofs.Orders.{order_flips, order_chains, order_equal, compared, less, equal, greater, decided, holds, fails}
use Rattle.model.specs.Routes.{Route, Routes, route, find, last_hop, put, without, smallest, Ascending, Above}
use Rattle.laws.proofs.Places.{Below, put_end, find_end, above_end, put_miss, find_miss, above_miss, put_hit, find_hit, above_hit, without_hit}
use Rattle.laws.proofs.Routes.{above_chains}
use Rattle.laws.specs.Lists.{InRange}
use Rattle.routes.specs.declared.Route.{Route as Entry}
use Rattle.routes.specs.Meant.{meant, prefix_bits}
use Rattle.routes.specs.Found.{Hit, Miss}

-- what stands above the first route stands above each
pub first_before : (rs : Routes) (p : Bits) (j : ℕ) (d : Route) → Above p rs → Ascending rs → j < length rs → order p (get_or rs j d).prefix ≡ Less
first_before [] p j d a s lt = absurd (omega arith)
first_before (r ∷ rs) p zero d a s lt = a
first_before (r ∷ rs) p (suc j) d a s lt = first_before rs p j d (above_chains rs p r.prefix a s.0) s.1 (omega arith)

before_at : (rs : Routes) (i j : ℕ) (d : Route) → Ascending rs → i < j → j < length rs → order (get_or rs i d).prefix (get_or rs j d).prefix ≡ Less
before_at [] i j d s lt in' = absurd (omega arith)
before_at (r ∷ rs) i zero d s lt in' = absurd (omega arith)
before_at (r ∷ rs) zero (suc j) d s lt in' = first_before rs r.prefix j d s.0 s.1 (omega arith)
before_at (r ∷ rs) (suc i) (suc j) d s lt in' = before_at rs i j d s.1 (omega arith) (omega arith)

-- comparisons with a prefix rise where the prefixes do
index_rises : (a b p : Bits) → order a b ≡ Less → ordering_index (order a p) ≤ ordering_index (order b p)
index_rises a b p e = elim (compared b p) [
  | less f ↦ (let g = ap ordering_index (order_chains a b p e f) in omega arith)
  | equal f ↦ (let g : ordering_index (order a p) ≡ 0 = ap (λ (q : Bits). ordering_index (order a q)) (sym (order_equal b p f)) ∙ ap ordering_index e in omega arith)
  | greater f ↦ (let g = ap ordering_index f in let h = index_small (order a p) in omega arith)
]
  where
    index_small : (o : Ordering) → ordering_index o ≤ 2
    index_small Less = omega arith
    index_small Equal = omega arith
    index_small Greater = omega arith

-- the routes of which each stands before a prefix
below_from : (rs : Routes) (i : ℕ) (p : Bits) (d : Route) → ((k : ℕ) → k < i → order (get_or rs k d).prefix p ≡ Less) → Below p (take i rs)
below_from rs zero p d h = tt
below_from [] (suc i) p d h = tt
below_from (r ∷ rs) (suc i) p d h = (h 0 (omega arith), below_from rs i p d (λ k lt. h (suc k) (omega arith)))

-- an index within a list has an element
pub element : {T : Type 0} (xs : List T) (i : ℕ) → i < length xs → (x : T) × (x ≡ get_or xs i x)
element [] i lt = absurd (omega arith)
element (x ∷ xs) zero lt = (x, refl)
element (x ∷ xs) (suc i) lt = element xs i (omega arith)

-- the routes of the code are in range, each by its own facts
pub all_ranged : {X : Type 0} {G : Ghosts X} (W : ℕ) → ((a : X) → length (G.bits a) ≡ W) → (xs : List (Entry X G)) → InRange W (map (meant G.bits) xs)
all_ranged W long [] = tt
all_ranged {X} {G} W long (r ∷ xs) =
    let width = long r.prefix.address in
    let within = r.sound.0 in
    let size = length-take-le r.prefix.length (G.bits r.prefix.address) within in
    ((omega arith), r.small, all_ranged W long xs)

module _ {X : Type 0} {G : Ghosts X} (bits : X → Bits) (xs : List (Entry X G)) where
  abbrev means : Entry X G → Route
  means = meant bits

  abbrev rs : Routes
  rs = map means xs

  long : length rs ≡ length xs
  long = length-map xs means

  -- the route at a place
  module _ (i : ℕ) (x : Entry X G) (inside : i < length xs) (is : x ≡ get_or xs i x) where
    pub route_at : (d : Route) → get_or rs i d ≡ means x
    route_at d = get_or-map means xs i x d inside ∙ ap means (sym is)

    pub from_here : drop i rs ≡ means x ∷ drop (suc i) rs
    from_here =
        drop_more rs i (means x) (omega (arith, long))
        ∙ ap (λ (r : Route). r ∷ drop (i + 1) rs) (route_at (means x))
        ∙ ap (λ (k : ℕ). means x ∷ drop k rs) (add-one i)

  module _ (p : Bits) (i : ℕ) (below : Below p (take i rs)) where
    past : length xs ≤ i → i ≤ length xs → Miss rs p i
    past out in' =
        let e : drop i rs ≡ [] = drop_all i rs (omega (arith, long)) in
        record {
          within = omega (arith, long);
          finds = find_end rs i p below e;
          puts = put_end rs i p below e;
          follows = above_end rs i p below e;
        }

    module _ (x : Entry X G) (inside : i < length xs) (is : x ≡ get_or xs i x) (s : Ascending rs) where
      missed : order p (means x).prefix ≡ Less → Miss rs p i
      missed e =
          let at = from_here i x inside is in
          record {
            within = omega (arith, long);
            finds = find_miss rs i p below (means x) (drop (suc i) rs) at e s;
            puts = put_miss rs i p below (means x) (drop (suc i) rs) at e;
            follows = above_miss rs i p below (means x) (drop (suc i) rs) at e;
          }

      found : order p (means x).prefix ≡ Equal → Hit rs p i
      found e =
          let at = from_here i x inside is in
          record {
            within = omega (arith, long);
            finds = λ d. find_hit rs i p below (means x) (drop (suc i) rs) at e ∙ ap (λ (r : Route). Some r.hop) (sym (route_at i x inside is d));
            puts = λ h. put_hit rs i p below (means x) (drop (suc i) rs) at e h ∙ sym (set_split rs i (route p h) (omega (arith, long)));
            takes = without_hit rs i p below (means x) (drop (suc i) rs) at e s;
            follows = above_hit rs i p below (means x) (drop (suc i) rs) at e s ∙ ap (λ (k : ℕ). smallest (drop k rs)) (sym (add-one i));
          }

  module _ (s : Ascending rs) (p : Bits) where
    abbrev compares : Entry X G → Ordering
    compares y = order (means y).prefix p

    -- as a search by halves asks
    rises : IsNonDecreasingBy (λ y. ordering_index (compares y)) xs
    rises i j d le in' = elim (decided (leb j i)) [
      | holds e ↦ (let same : i ≡ j = (let h = leb-true j i e in omega arith) in let eq = ap (λ (k : ℕ). ordering_index (compares (get_or xs k d))) same in omega arith)
      | fails e ↦
          (let lt : i < j = leb-false j i e in
          let up = before_at rs i j (means d) s lt (omega (arith, long)) in
          let a = get_or-map means xs i d (means d) (omega arith) in
          let b = get_or-map means xs j d (means d) in' in
          index_rises (means (get_or xs i d)).prefix (means (get_or xs j d)).prefix p
          (ap₂ (λ (q r : Route). order q.prefix r.prefix) (sym a) (sym b) ∙ up))
    ]

    nobody : Route
    nobody = route [] 0

    pub searched : (r : Result ℕ ℕ) → IsSearchInRange r (length xs) → IsBinarySearchResult compares xs r → MatchResult r (Hit rs p) (Miss rs p)
    searched (Ok i) in' at =
        let el = element xs i in' in
        let equal : order (means el.0).prefix p ≡ Equal = ap compares el.1 ∙ at el.0 in
        let is : (means el.0).prefix ≡ p = order_equal (means el.0).prefix p equal in
        let below : Below p (take i rs) = below_from rs i p nobody (λ k lt.
        ap (λ (q : Bits). order (get_or rs k nobody).prefix q) (sym is)
        ∙ ap (λ (r : Route). order (get_or rs k nobody).prefix r.prefix) (sym (route_at i el.0 in' el.1 nobody))
        ∙ before_at rs k i nobody s lt (omega (arith, long))) in
        found p i below el.0 in' el.1 s (order_flips (means el.0).prefix p ∙ ap flipped equal)
    searched (Err i) in' parted =
        let split = parted rises in
        let below : Below p (take i rs) = below_from rs i p nobody (λ k lt.
        let el = element xs k (omega arith) in
        ap (λ (r : Route). order r.prefix p) (route_at k el.0 (omega arith) el.1 nobody) ∙ ap compares el.1 ∙ split.0 k el.0 (omega arith) lt) in
        elim (decided (leb (length xs) i)) [
          | holds e ↦ past p i below (leb-true (length xs) i e) in'
          | fails e ↦
              (let lt : i < length xs = leb-false (length xs) i e in
              let el = element xs i lt in
              let more : order (means el.0).prefix p ≡ Greater = ap compares el.1 ∙ split.1 i el.0 (omega arith) lt in
              missed p i below el.0 lt el.1 s (order_flips (means el.0).prefix p ∙ ap flipped more))
        ]

  -- the routes that the list stands for after one is put in, replaced or taken out
  pub meant_inserted : (i : ℕ) (x : Entry X G) → map means (insert xs i x) ≡ insert rs i (means x)
  meant_inserted i x =
      map-append means (take i xs) (x ∷ drop i xs)
      ∙ ap (λ (q : Routes). q ++ means x ∷ map means (drop i xs)) (sym (take-map means i xs))
      ∙ ap (λ (q : Routes). take i rs ++ means x ∷ q) (sym (drop-map means i xs))

  pub meant_set : (i : ℕ) (x : Entry X G) → map means (set xs i x) ≡ set rs i (means x)
  meant_set i x = map-set means xs i x

  pub meant_removed : (i : ℕ) → map means (remove xs i) ≡ remove rs i
  meant_removed i =
      map-append means (take i xs) (drop (suc i) xs)
      ∙ ap (λ (q : Routes). q ++ map means (drop (suc i) xs)) (sym (take-map means i xs))
      ∙ ap (λ (q : Routes). take i rs ++ q) (sym (drop-map means (suc i) xs))

  -- the list after a route is put in, replaced or taken out
  module _ (p : Bits) (i : ℕ) (hit : Hit rs p i) where
    inside : i < length xs
    inside = let h = hit.within in omega (arith, long)

    pub hop_at : (x : Entry X G) → x ≡ get_or xs i x → Some x.hop ≡ find rs p
    hop_at x is = ap (λ (r : Route). Some r.hop) (sym (route_at i x inside is (means x))) ∙ sym (hit.finds (means x))

    pub removed : map means (remove xs i) ≡ without rs p
    removed = meant_removed i ∙ sym hit.takes

  module _ (i : ℕ) (x : Entry X G) where
    pub replaced : Hit rs (prefix_bits bits x.prefix) i → map means (set xs i x) ≡ put rs (prefix_bits bits x.prefix) x.hop
    replaced hit = meant_set i x ∙ sym (hit.puts x.hop)

    pub inserted : Miss rs (prefix_bits bits x.prefix) i → map means (insert xs i x) ≡ put rs (prefix_bits bits x.prefix) x.hop
    inserted miss = meant_inserted i x ∙ sym (miss.puts x.hop)

-- to take out what is not there changes nothing
pub absent_stays : (rs : Routes) (p : Bits) → find rs p ≡ None → without rs p ≡ rs
absent_stays [] p e = refl
absent_stays (r ∷ rs) p e = elim (decided (same p r.prefix)) [
  | holds f ↦ (let g : ◌≡◌ {A = Option ℕ} (Some r.hop) None = sym (ap (λ (t : Bool). cond t (Some r.hop) (find rs p)) f) ∙ e in absurd cc)
  | fails f ↦
      ap (λ (t : Bool). cond t (without rs p) (r ∷ without rs p)) f
      ∙ ap (λ (q : Routes). r ∷ q) (absent_stays rs p (sym (ap (λ (t : Bool). cond t (Some r.hop) (find rs p)) f) ∙ e))
]

-- the first route from an index on
module _ {X : Type 0} {G : Ghosts X} (bits : X → Bits) (xs : List (Entry X G)) (i : ℕ) where
  pub first_from : (o : Option (Bor (Entry X G))) → (is_some o ≡ nat_lt i (length xs)) × IfSome o (λ r. r.now ≡ get_or xs i r.now)
      → option_map (meant bits) (option_copied o) ≡ smallest (drop i (map (meant bits) xs))
  first_from None h =
      let e = drop_all i (map (meant bits) xs) (let le = ltb-false i (length xs) (sym h.0) in let long = length-map xs (meant bits) in omega arith) in
      ap smallest (sym e)
  first_from (Some r) h = ap smallest (sym (from_here bits xs i r.now (ltb-true i (length xs) (sym h.0)) h.1))

-- Every list of routes has sound prefixes and hops in range; so has each after a route is put in, replaced or taken out.
module _ {X : Type 0} {G : Ghosts X} where
  abbrev pub Held : Entry X G → Type 0
  Held r = Sound (G.bits r.prefix.address) r.prefix.length × (r.hop ≤ last_hop)

  pub held : (xs : List (Entry X G)) → AllByRecursion Held xs
  held [] = tt
  held (r ∷ rs) = ((r.sound, r.small), held rs)

  pub held_inserted : (xs : List (Entry X G)) (i : ℕ) (x : Entry X G) → AllByRecursion Held (insert xs i x)
  held_inserted xs i x = held (insert xs i x)

  pub held_set : (xs : List (Entry X G)) (i : ℕ) (x : Entry X G) → AllByRecursion Held (set xs i x)
  held_set xs i x = held (set xs i x)

  pub held_removed : (xs : List (Entry X G)) (i : ℕ) → AllByRecursion Held (remove xs i)
  held_removed xs i = held (remove xs i)
