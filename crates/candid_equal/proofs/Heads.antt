-- What is equal asks pairs of equal types, and the other way round.
use Rattle.std.proofs.Common.{◌≡◌, ℕ, Bool, true, false, cond, List, [], ◌∷◌, ◌++◌, Option, Some, None, refl, ap}
use Rattle.std.specs.Prelude.{nat_eq}
use Rattle.std.specs.Cmp.Lexicographic.{pointwise, bytes_decides}
use Rattle.std.proofs.lemmas.Bool.{eqb-true, eq-eqb}
use Rattle.mo_types.specs.Sub.{Each}
use Rattle.mo_types.specs.declared.wire.Entry.{Entry}
use Rattle.mo_types.specs.declared.wire.Method.{Method}
use Rattle.mo_types.specs.declared.wire.Wire.{Wire}
use Rattle.mo_types.specs.declared.wire.Wire.TheVariants.{Simple, Opt, Vec, Record, Variant, Func, Service}
use Rattle.mo_types.specs.declared.wire.TableRef.{TableRef}
use Rattle.mo_types.specs.Wire.{plain_code, SameParts, SameEntries, SameMethods, SameHead}
use Rattle.candid_equal.specs.declared.pair.Pair.{Pair}
use Rattle.candid_equal.specs.Pairs.{code_once}
use Rattle.candid_equal.specs.Asks.{join, when, one, each_asks, entry_asks, method_asks, func_asks, asks}

abbrev pub AllAsked : (Pair → Type 0) → Option (List Pair) → Type 0
AllAsked P None = ⊥
AllAsked P (Some ps) = Each P ps

module _ (P : Pair → Type 0) where
  each_front : (ps qs : List Pair) → Each P (ps ++ qs) → Each P ps × Each P qs
  each_front [] qs h = (tt, h)
  each_front (p ∷ ps) qs h = let i = each_front ps qs h.1 in ((h.0, i.0), i.1)

  front_each : (ps qs : List Pair) → Each P ps → Each P qs → Each P (ps ++ qs)
  front_each [] qs h k = k
  front_each (p ∷ ps) qs h k = (h.0, front_each ps qs h.1 k)

  join_to : (a b : Option (List Pair)) → AllAsked P a → AllAsked P b → AllAsked P (join a b)
  join_to None b h k = absurd h
  join_to (Some a) None h k = absurd k
  join_to (Some a) (Some b) h k = front_each a b h k

  join_from : (a b : Option (List Pair)) → AllAsked P (join a b) → AllAsked P a × AllAsked P b
  join_from None b h = absurd h
  join_from (Some a) None h = absurd h
  join_from (Some a) (Some b) h = each_front a b h

  when_to : (b : Bool) → b ≡ true → AllAsked P (when b)
  when_to true e = tt
  when_to false e = cc

  when_from : (b : Bool) → AllAsked P (when b) → b ≡ true
  when_from true h = refl
  when_from false h = absurd h

  if_to : (b : Bool) (o : Option (List Pair)) → b ≡ true → AllAsked P o → AllAsked P (cond b o None)
  if_to true o e h = h
  if_to false o e h = cc

  if_from : (b : Bool) (o : Option (List Pair)) → AllAsked P (cond b o None) → (b ≡ true) × AllAsked P o
  if_from true o h = (refl, h)
  if_from false o h = absurd h

module _ (R : TableRef → ℕ → Type 0) where
  abbrev P : Pair → Type 0
  P p = R p.wire p.declared

  parts_to : (as_ : List TableRef) (bs : List ℕ) → SameParts R as_ bs → AllAsked P (each_asks one as_ bs)
  parts_to [] [] h = tt
  parts_to [] (b ∷ bs) h = absurd h
  parts_to (a ∷ as_) [] h = absurd h
  parts_to (a ∷ as_) (b ∷ bs) h = join_to P (one a b) (each_asks one as_ bs) (h.0, tt) (parts_to as_ bs h.1)

  parts_from : (as_ : List TableRef) (bs : List ℕ) → AllAsked P (each_asks one as_ bs) → SameParts R as_ bs
  parts_from [] [] h = tt
  parts_from [] (b ∷ bs) h = absurd h
  parts_from (a ∷ as_) [] h = absurd h
  parts_from (a ∷ as_) (b ∷ bs) h = let i = join_from P (one a b) (each_asks one as_ bs) h in (i.0.0, parts_from as_ bs i.1)

  entries_to : (as_ : List (Entry TableRef)) (bs : List (Entry ℕ)) → SameEntries R as_ bs → AllAsked P (each_asks entry_asks as_ bs)
  entries_to [] [] h = tt
  entries_to [] (b ∷ bs) h = absurd h
  entries_to (a ∷ as_) [] h = absurd h
  entries_to (a ∷ as_) (b ∷ bs) h = join_to P (entry_asks a b) (each_asks entry_asks as_ bs) (if_to P (nat_eq a.id b.id) (one a.part b.part) (eq-eqb a.id b.id h.0) (h.1, tt)) (entries_to as_ bs h.2)

  entries_from : (as_ : List (Entry TableRef)) (bs : List (Entry ℕ)) → AllAsked P (each_asks entry_asks as_ bs) → SameEntries R as_ bs
  entries_from [] [] h = tt
  entries_from [] (b ∷ bs) h = absurd h
  entries_from (a ∷ as_) [] h = absurd h
  entries_from (a ∷ as_) (b ∷ bs) h =
      let i = join_from P (entry_asks a b) (each_asks entry_asks as_ bs) h in
      let j = if_from P (nat_eq a.id b.id) (one a.part b.part) i.0 in
      (eqb-true a.id b.id j.0, j.1.0, entries_from as_ bs i.1)

  methods_to : (as_ : List (Method TableRef)) (bs : List (Method ℕ)) → SameMethods R as_ bs → AllAsked P (each_asks method_asks as_ bs)
  methods_to [] [] h = tt
  methods_to [] (b ∷ bs) h = absurd h
  methods_to (a ∷ as_) [] h = absurd h
  methods_to (a ∷ as_) (b ∷ bs) h = join_to P (method_asks a b) (each_asks method_asks as_ bs) (if_to P (pointwise nat_eq a.name b.name) (one a.part b.part) ((bytes_decides a.name b.name).1 h.0) (h.1, tt)) (methods_to as_ bs h.2)

  methods_from : (as_ : List (Method TableRef)) (bs : List (Method ℕ)) → AllAsked P (each_asks method_asks as_ bs) → SameMethods R as_ bs
  methods_from [] [] h = tt
  methods_from [] (b ∷ bs) h = absurd h
  methods_from (a ∷ as_) [] h = absurd h
  methods_from (a ∷ as_) (b ∷ bs) h =
      let i = join_from P (method_asks a b) (each_asks method_asks as_ bs) h in
      let j = if_from P (pointwise nat_eq a.name b.name) (one a.part b.part) i.0 in
      ((bytes_decides a.name b.name).0 j.0, j.1.0, methods_from as_ bs i.1)

  func_to : (ps rs : List TableRef) (ns : List ℕ) (qs ss ms : List ℕ) → SameParts R ps qs → SameParts R rs ss → ns ≡ ms → AllAsked P (func_asks ps rs ns qs ss ms)
  func_to ps rs ns qs ss ms h k e = join_to P (when (pointwise nat_eq ns ms)) (join (each_asks one ps qs) (each_asks one rs ss)) (when_to P (pointwise nat_eq ns ms) ((bytes_decides ns ms).1 e)) (join_to P (each_asks one ps qs) (each_asks one rs ss) (parts_to ps qs h) (parts_to rs ss k))

  func_from : (ps rs : List TableRef) (ns : List ℕ) (qs ss ms : List ℕ) → AllAsked P (func_asks ps rs ns qs ss ms) → SameParts R ps qs × SameParts R rs ss × (ns ≡ ms)
  func_from ps rs ns qs ss ms h =
      let i = join_from P (when (pointwise nat_eq ns ms)) (join (each_asks one ps qs) (each_asks one rs ss)) h in
      let j = join_from P (each_asks one ps qs) (each_asks one rs ss) i.1 in
      (parts_from ps qs j.0, parts_from rs ss j.1, (bytes_decides ns ms).0 (when_from P (pointwise nat_eq ns ms) i.0))

  pub head_to : (w : Wire TableRef) (v : Wire ℕ) → SameHead R w v → AllAsked P (asks w v)
  head_to (Simple p) (Simple q) h = when_to P (nat_eq (plain_code p) (plain_code q)) (eq-eqb (plain_code p) (plain_code q) (ap plain_code h))
  head_to (Opt a) (Opt b) h = (h, tt)
  head_to (Vec a) (Vec b) h = (h, tt)
  head_to (Record es) (Record fs) h = entries_to es fs h
  head_to (Variant es) (Variant fs) h = entries_to es fs h
  head_to (Func ps rs ns) (Func qs ss ms) h = func_to ps rs ns qs ss ms h.0 h.1 h.2
  head_to (Service es) (Service fs) h = methods_to es fs h
  head_to w v h = absurd h

  pub head_from : (w : Wire TableRef) (v : Wire ℕ) → AllAsked P (asks w v) → SameHead R w v
  head_from (Simple p) (Simple q) h = code_once p q (eqb-true (plain_code p) (plain_code q) (when_from P (nat_eq (plain_code p) (plain_code q)) h))
  head_from (Opt a) (Opt b) h = h.0
  head_from (Vec a) (Vec b) h = h.0
  head_from (Record es) (Record fs) h = entries_from es fs h
  head_from (Variant es) (Variant fs) h = entries_from es fs h
  head_from (Func ps rs ns) (Func qs ss ms) h = func_from ps rs ns qs ss ms h
  head_from (Service es) (Service fs) h = methods_from es fs h
  head_from w v h = absurd h
