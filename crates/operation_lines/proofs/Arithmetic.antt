-- Arithmetic at each kind: its codes do what its primitives do.
use Rattle.std.proofs.Common.{◌≡◌, ℕ, zero, suc, ◌+◌, ◌*◌, ◌<◌, ◌≤◌, ◌-◌, ◌^◌, List, [], ◌∷◌, length, Bool, true, false, cond, nat_lt, Result, Ok, Err, ℤ, refl, sym, ap, ◌∙◌, subst, arith}
use Rattle.std.specs.Prelude.{slice_index}
use Rattle.std.proofs.lemmas.Bool.Decides.{nat_tests}
use Rattle.mo_num.specs.declared.kind.Kind.{Kind}
use Rattle.mo_num.specs.declared.kind.Kind.TheVariants.{Nat, Int, Nat8, Nat16, Nat32, Nat64, Int8, Int16, Int32, Int64}
use Rattle.mo_num.specs.declared.operator.NumTrap.{NumTrap}
use Rattle.mo_num.specs.declared.operator.NumTrap.TheVariants.{Overflow}
use Rattle.mo_num.specs.declared.operator.Operator.{Operator}
use Rattle.mo_num.specs.declared.operator.Operator.TheVariants as operator
use Rattle.mo_num.specs.Kinds.{InRange}
use Rattle.mo_num.specs.Arith.{Arith, Negation}
use Rattle.mo_types.specs.declared.datum.Datum.TheVariants as part
use Rattle.mo_types.specs.declared.node.Node.{Node}
use Rattle.mo_types.specs.declared.node.TypeId.{TypeId}
use Rattle.mo_values.specs.declared.operation.Wrapping.{Wrapping}
use Rattle.mo_values.specs.Costs.{weighing, arithmetic_weight}
use Rattle.mo_values.specs.Numbers.{has_width, exact, wrapped}
use Rattle.mo_values.specs.Operations as operations
use Rattle.mo_values.specs.Operations.{number_text}
use Rattle.mo_values.specs.Shapes.{Bytes, leaf}
use Rattle.mo_values.proofs.Wrapped.{is_wrapped}
use Rattle.wasm_tree.specs.declared.types.ValueType.TheVariants.{I64}
use Rattle.wasm_tree.specs.Exec.{Host, Store, bits32, bits64}
use Rattle.core_ir.specs.Primitives.{Done, Gives, answered}
use Rattle.core_ir.specs.Worlds.{World}
use Rattle.low_ir.specs.declared.op.Operand.{Operand}
use Rattle.low_ir.specs.declared.op.Operand.TheVariants.{Local}
use Rattle.low_ir.specs.Tree.{Code, Module}
use Rattle.low_ir.specs.Numbering.{host_trap}
use Rattle.low_rules.specs.Lines.{host_end}
use Rattle.low_ir.specs.Frames.{enter}
use Rattle.low_rules.specs.Rule.{CallEnd, Contracts, ComesTo, Before, ends, value_of}
use Rattle.low_rules.proofs.Entering.{weaker}
use Rattle.inlined_code.specs.Inlining.{arguments}
use Rattle.number_routines.specs.declared.places.TrapPlaces.{TrapPlaces}
use Rattle.number_routines.specs.Codes.{place, calculate, negate, wrap}
use Rattle.number_routines.specs.Laws.{IsStraight, IsThere}
use Rattle.number_routines.specs.Lines.{long_of, Results, Answers}
use Rattle.number_routines.proofs.Calculated.{calculates, host_traps, arithmetic_kept}
use Rattle.number_routines.proofs.Negatives.{negate_natural, negate_signed}
use Rattle.number_routines.proofs.WrapRuns.{wraps}
use Rattle.number_routines.proofs.PowerKinds.{power_kept}
use Rattle.number_lines.specs.Laws.{HaveTexts, arithmetic_routine}
use Rattle.heap_layout.specs.Ghosts.{Ghost}
use Rattle.heap_layout.specs.Heaps.{Plan}
use Rattle.heap_layout.specs.Table.{StandsAt}
use Rattle.heap_layout.specs.Endings.{after_host, trap_end}
use Rattle.heap_layout.proofs.Begins.{texts_stand}
use Rattle.emitted_steps.specs.Operations.{Clear, HeapHeld, HostShows}
use Rattle.operation_codes.specs.Links.{Links}
use Rattle.operation_codes.specs.Codes.{at_once, made_in, returns, one_place, two_places, spare_places, inline_one, inline_two, inline_spare, calls, Way, Inline, Spare, Calls, way, calculate_by}
use Rattle.operation_lines.specs.Linked.{MayBeCalled}
use Rattle.operation_lines.specs.Laws.{operation_steps}
use Rattle.operation_lines.proofs.Placed.{Agree}
use Rattle.operation_lines.proofs.Work.{clear_first, clear_rest, Runs, does}
use Rattle.operation_lines.proofs.Inline.{EndsSo, weight_of, call_runs, inline_runs}
use Rattle.operation_lines.proofs.Values.{arith_in, within_in, range_small}
use Rattle.operation_lines.proofs.Numbers.{mine_one, mine_two, mine_spare, Straight, GoesSo, negated_goes, wrapped_goes, at_once_free, at_once_last, made_free_one, made_free, own_one, own_two, own_spare, one_written, two_written, spare_written}

-- ---- arguments

not_less : (x n : ℕ) → n ≤ x → nat_lt x n ≡ true → ⊥
not_less x n le e = grind (arith, nat_tests, e, le)

less_than : (x n : ℕ) → nat_lt x n ≡ true → x < n
less_than x n e = grind (arith, nat_tests, e)

-- the operators whose code goes inline somewhere
straight_so : (o : Operator) (k : Kind) (w : Way) → way o k ≡ w → (Calls ≡ w → ⊥) → IsStraight o
straight_so operator.Add k w e ne = tt
straight_so operator.Sub k w e ne = tt
straight_so operator.Mul k w e ne = tt
straight_so operator.Div k w e ne = tt
straight_so operator.Rem k w e ne = tt
straight_so operator.Pow k w e ne = absurd (ne e)

abbrev most_of : Operator → ℕ
most_of operator.Pow = 3800
most_of o = 60

most_paid : (o : Operator) → most_of o + 8 ≤ operation_steps * arithmetic_weight o
most_paid operator.Add = omega arith
most_paid operator.Sub = omega arith
most_paid operator.Mul = omega arith
most_paid operator.Div = omega arith
most_paid operator.Rem = omega arith
most_paid operator.Pow = omega arith

weight_some : (o : Operator) → 1 ≤ arithmetic_weight o
weight_some operator.Add = omega arith
weight_some operator.Sub = omega arith
weight_some operator.Mul = omega arith
weight_some operator.Div = omega arith
weight_some operator.Rem = omega arith
weight_some operator.Pow = omega arith

arithmetic_call : (W : Type 0) (pages : ℕ) (m : Module) (host : Host W) (at : TrapPlaces) (o : Operator) (k : Kind) (f signature : ℕ) → IsThere m f (I64 ∷ I64 ∷ []) (arithmetic_routine signature at o k)
    → (deep room : ℕ) → 2 ≤ deep → 24 ≤ room → (store : Store W) (a b : ℤ) → InRange k a → InRange k b → ComesTo (enter deep pages m host room) f store (bits64 a ∷ bits64 b ∷ []) (Answers host at store (most_of o) (Arith o k a b))
arithmetic_call W pages m host at operator.Add k f signature there deep room less fits store a b r s = arithmetic_kept W pages m host at operator.Add k tt f signature there deep room less (omega (arith, fits)) store a b r s
arithmetic_call W pages m host at operator.Sub k f signature there deep room less fits store a b r s = arithmetic_kept W pages m host at operator.Sub k tt f signature there deep room less (omega (arith, fits)) store a b r s
arithmetic_call W pages m host at operator.Mul k f signature there deep room less fits store a b r s = arithmetic_kept W pages m host at operator.Mul k tt f signature there deep room less (omega (arith, fits)) store a b r s
arithmetic_call W pages m host at operator.Div k f signature there deep room less fits store a b r s = arithmetic_kept W pages m host at operator.Div k tt f signature there deep room less (omega (arith, fits)) store a b r s
arithmetic_call W pages m host at operator.Rem k f signature there deep room less fits store a b r s = arithmetic_kept W pages m host at operator.Rem k tt f signature there deep room less (omega (arith, fits)) store a b r s
arithmetic_call W pages m host at operator.Pow k f signature there deep room less fits store a b r s = power_kept W pages m host at k f signature there deep room less fits store a b r s

module _ {W : Type 0} (head : TypeId → Node TypeId) (plan : Plan) (told fell : W → Bytes → W) (roof : ℕ) (g : Ghost) (world : World) (store : Store W) (top : ℕ) (heap : HeapHeld plan g world store top) (locals : List ℕ) (to free : ℕ) (pages : ℕ) (m : Module) (host : Host W) (deep room : ℕ) (to_fits : to < length locals) (free_fits : 3 + free ≤ length locals)
    (shows : HostShows host told fell) (links : Links) (texts : HaveTexts plan links.traps) where
  abbrev Ends : ℕ → Done → CallEnd W → Type 0
  Ends most d end = EndsSo plan told fell roof g world store top heap locals to free most d end

  abbrev Does : Done → Code → Type 0
  Does d code = Runs plan told fell roof g world store top heap locals to free pages m host (suc deep) room d code

  abbrev answer : ℕ → Result ℤ NumTrap → Done
  answer weight r = answered head world.store (weighing weight) (operations.number r)

  paid_of : (r : Result ℤ NumTrap) (weight n : ℕ) → n ≤ operation_steps * weight → n ≤ operation_steps * weight_of plan told fell roof g world store top heap locals to free (answer weight r)
  paid_of (Ok n) weight k le = le
  paid_of (Err t) weight k le = le

  some_of : (r : Result ℤ NumTrap) (weight : ℕ) → 1 ≤ weight → 1 ≤ weight_of plan told fell roof g world store top heap locals to free (answer weight r)
  some_of (Ok n) weight le = le
  some_of (Err t) weight le = le

  results_so : (n : ℤ) (most weight : ℕ) → bits64 n < 2 ^ 64 → (end : CallEnd W) → Results store most n end → Ends most (Gives (weighing weight) (leaf (part.Number n)) world.store) end
  results_so n most weight small end r = (r.0, bits64 n, r.2, r.1, record { small = small; means = refl }, refl)

  answers_so : (r : Result ℤ NumTrap) (most weight : ℕ) → ((n : ℤ) → r ≡ Ok n → bits64 n < 2 ^ 64) → (end : CallEnd W) → Answers host links.traps store most r end → Ends most (answer weight r) end
  answers_so (Ok n) most weight small end a = results_so n most weight (small n refl) end a
  answers_so (Err t) most weight small end a =
      let stands : StandsAt store.memory (bits32 (place links.traps t)) (number_text t) = texts_stand plan g world store.memory heap.count top heap.holds (bits32 (place links.traps t)) (number_text t) (texts t) in
      (a.0, after_host store store.memory (fell store.world (number_text t)), a.2 ∙ ap (trap_end store a.0) (shows.traps store.memory store.world (bits32 (place links.traps t)) (number_text t) (let w = heap.holds.heap.whole in let f = heap.holds.heap.few in omega (arith, w, f)) stands), a.1, refl)

  module _ (a b : Operand) (clear : Clear free (a ∷ b ∷ [])) (x y : ℤ) (x_is : value_of a locals ≡ bits64 x) (y_is : value_of b locals ≡ bits64 y) where
    abbrev inner : List ℕ
    inner = bits64 x ∷ bits64 y ∷ 0 ∷ 0 ∷ 0 ∷ 0 ∷ 0 ∷ []

    agree_two : (r : ℕ) → Agree (two_places free r a b) mine_two 7 (length locals) locals (arguments 2) inner locals
    agree_two r = record { many = refl; long = refl; few = λ x e. let lt = less_than x 2 e in omega (arith, lt); same = same; others = λ z ne. refl }
      where
        same : (x : ℕ) → arguments 2 x ≡ true → value_of ((two_places free r a b).read x) locals ≡ slice_index inner x
        same zero e = x_is
        same (suc zero) e = y_is
        same (suc (suc x)) e = absurd (not_less (suc (suc x)) 2 (omega arith) e)

    agree_spare : Agree (spare_places free to a b) mine_spare 7 (length locals) locals (arguments 2) inner locals
    agree_spare = record { many = refl; long = refl; few = λ x e. let lt = less_than x 2 e in omega (arith, lt); same = same; others = λ z ne. refl }
      where
        same : (x : ℕ) → arguments 2 x ≡ true → value_of ((spare_places free to a b).read x) locals ≡ slice_index inner x
        same zero e = x_is
        same (suc zero) e = y_is
        same (suc (suc x)) e = absurd (not_less (suc (suc x)) 2 (omega arith) e)

    traps : (store : Store W) (args : List ℕ) (q : CallEnd W → Type 0) → q (host_end store (host host_trap args store.memory store.world)) → ComesTo (enter (suc deep) pages m host room) host_trap store args q
    traps store args q h = host_traps pages m host deep room store args q h

    module _ (o : Operator) (k : Kind) (r : InRange k x) (s : InRange k y) where
      abbrev d : Done
      d = answer (arithmetic_weight o) (Arith o k x y)

      then : (most : ℕ) (end : CallEnd W) → Answers host links.traps store most (Arith o k x y) end → Ends most d end
      then most = answers_so (Arith o k x y) most (arithmetic_weight o) (λ n q. range_small k n (arith_in o k x y n q))

      in_routine : IsStraight o → Before pages m (does plan told fell roof g world store top heap locals to free pages m host (suc deep) room) (calculate links.traps 2 3 4 5 6 o k (Local 0) (Local 1) (returns 2)) (ends (long_of (I64 ∷ I64 ∷ [])) (Ends 60 d)) (record { spent = 0; store = store; locals = inner })
      in_routine is = calculates pages m host (does plan told fell roof g world store top heap locals to free pages m host (suc deep) room) traps links.traps store (Ends 60 d) o k is x y r s (then 60)

      inlined : (w : Way) → way o k ≡ w → GoesSo w links.traps o k → (Inline ≡ w) → Does d (inline_two to free a b (calculate links.traps 2 3 4 5 6 o k))
      inlined w e goes is =
          let straight : Straight mine_two 7 2 (calculate links.traps 2 3 4 5 6 o k (Local 0) (Local 1) (returns 2)) = subst (λ w. GoesSo w links.traps o k) (sym is) goes in
          let f = made_free to free (length locals) to_fits free_fits a b clear in
          inline_runs plan told fell roof g world store top heap locals to free pages m host (suc deep) room to_fits (two_places free (made_in to free (a ∷ b ∷ [])) a b) mine_two 7 (own_two free (length locals) (made_in to free (a ∷ b ∷ [])) a b f) (two_written to free a b)
          (I64 ∷ I64 ∷ []) d (some_of (Arith o k x y) (arithmetic_weight o) (weight_some o)) (calculate links.traps 2 3 4 5 6 o k (Local 0) (Local 1) (returns 2)) (arguments 2) inner straight.0 straight.1 (agree_two (made_in to free (a ∷ b ∷ [])))
          (in_routine (straight_so o k w e (λ c. let no : Calls ≡ Inline = c ∙ sym is in absurd (cc no))))

      spared : at_once to free (a ∷ b ∷ []) ≡ true → way o k ≡ Spare → Straight mine_spare 7 2 (calculate links.traps 2 3 4 5 6 o k (Local 0) (Local 1) (returns 2)) → Does d (inline_spare to free a b (calculate links.traps 2 3 4 5 6 o k))
      spared once e straight =
          let f = at_once_free to free (length locals) to_fits free_fits a b (clear_first free a (b ∷ []) clear) (clear_rest free a (b ∷ []) clear) once in
          inline_runs plan told fell roof g world store top heap locals to free pages m host (suc deep) room to_fits (spare_places free to a b) mine_spare 7 (own_spare free (length locals) to a b f (at_once_last to free (length locals) to_fits free_fits a b once)) (spare_written to free a b)
          (I64 ∷ I64 ∷ []) d (some_of (Arith o k x y) (arithmetic_weight o) (weight_some o)) (calculate links.traps 2 3 4 5 6 o k (Local 0) (Local 1) (returns 2)) (arguments 2) inner straight.0 straight.1 agree_spare
          (in_routine (straight_so o k Spare e (λ c. absurd (cc c))))

      called : (signature : ℕ) → IsThere m (links.calculation o k) (I64 ∷ I64 ∷ []) (arithmetic_routine signature links.traps o k) → 1 ≤ deep → 24 ≤ room → Does d (calls (links.calculation o k) to (a ∷ b ∷ []))
      called signature there deep_some wide =
          call_runs plan told fell roof g world store top heap locals to free pages m host (suc deep) room to_fits (links.calculation o k) (most_of o) d (paid_of (Arith o k x y) (arithmetic_weight o) (most_of o + 8) (most_paid o)) a b
          (subst (λ ws. ComesTo (enter (suc deep) pages m host room) (links.calculation o k) store ws (Ends (most_of o) d)) (λ i. sym x_is i ∷ sym y_is i ∷ [])
          (weaker _ (links.calculation o k) store (bits64 x ∷ bits64 y ∷ []) (Answers host links.traps store (most_of o) (Arith o k x y)) (Ends (most_of o) d) (then (most_of o))
          (arithmetic_call W pages m host links.traps o k (links.calculation o k) signature there (suc deep) room (omega (arith, deep_some)) wide store x y r s)))

      pub arithmetic_runs : (w : Way) → way o k ≡ w → GoesSo w links.traps o k → (MayBeCalled w → (signature : ℕ) × IsThere m (links.calculation o k) (I64 ∷ I64 ∷ []) (arithmetic_routine signature links.traps o k)) → 1 ≤ deep → 24 ≤ room
          → Does d (calculate_by links w o k to free a b)
      arithmetic_runs Inline e goes there deep_some wide = inlined Inline e goes refl
      arithmetic_runs Calls e goes there deep_some wide = let t = there tt in called t.0 t.1 deep_some wide
      arithmetic_runs Spare e goes there deep_some wide = by (at_once to free (a ∷ b ∷ [])) refl
        where
          by : (t : Bool) → at_once to free (a ∷ b ∷ []) ≡ t → Does d (cond t (inline_spare to free a b (calculate links.traps 2 3 4 5 6 o k)) (calls (links.calculation o k) to (a ∷ b ∷ [])))
          by true once = spared once e goes
          by false once = let t = there tt in called t.0 t.1 deep_some wide

    module _ (w : Wrapping) (k : Kind) (wide : has_width k ≡ true) (r : InRange k x) (s : InRange k y) where
      abbrev e : Done
      e = Gives (weighing 1) (leaf (part.Number (wrapped k (exact w x y)))) world.store

      pub wrapping_runs : Does e (inline_two to free a b (wrap 2 w k))
      wrapping_runs =
          let f = made_free to free (length locals) to_fits free_fits a b clear in
          let straight = wrapped_goes w k wide in
          inline_runs plan told fell roof g world store top heap locals to free pages m host (suc deep) room to_fits (two_places free (made_in to free (a ∷ b ∷ [])) a b) mine_two 7 (own_two free (length locals) (made_in to free (a ∷ b ∷ [])) a b f) (two_written to free a b)
          (I64 ∷ I64 ∷ []) e (omega arith) (wrap 2 w k (Local 0) (Local 1) (returns 2)) (arguments 2) inner straight.0 straight.1 (agree_two (made_in to free (a ∷ b ∷ [])))
          (wraps pages m host (does plan told fell roof g world store top heap locals to free pages m host (suc deep) room) traps links.traps store (Ends 60 e) w k wide x y r s
          (results_so (wrapped k (exact w x y)) 60 1 (range_small k (wrapped k (exact w x y)) (is_wrapped k (exact w x y)).in_range)))

  module _ (a : Operand) (clear : Clear free (a ∷ [])) (x : ℤ) (x_is : value_of a locals ≡ bits64 x) where
    abbrev single : List ℕ
    single = bits64 x ∷ 0 ∷ 0 ∷ 0 ∷ 0 ∷ 0 ∷ []

    agree_one : (r : ℕ) → Agree (one_place free r a) mine_one 6 (length locals) locals (arguments 1) single locals
    agree_one r = record { many = refl; long = refl; few = λ x e. let lt = less_than x 1 e in omega (arith, lt); same = same; others = λ z ne. refl }
      where
        same : (x : ℕ) → arguments 1 x ≡ true → value_of ((one_place free r a).read x) locals ≡ slice_index single x
        same zero e = x_is
        same (suc x) e = absurd (not_less (suc x) 1 (omega arith) e)

    module _ (k : Kind) (r : InRange k x) where
      abbrev n : Done
      n = answer 1 (Negation k x)

      then_one : (end : CallEnd W) → Answers host links.traps store 60 (Negation k x) end → Ends 60 n end
      then_one = answers_so (Negation k x) 60 1 (λ z q. range_small k z (within_in k Overflow _ z q))

      abbrev Negates : Kind → Type 0
      Negates k = Before pages m (does plan told fell roof g world store top heap locals to free pages m host (suc deep) room) (negate links.traps 1 2 3 4 5 k (Local 0) (returns 1)) (ends (long_of (I64 ∷ [])) (Ends 60 n)) (record { spent = 0; store = store; locals = single })

      pub negation_runs : Negates k → Does n (inline_one to free a (negate links.traps 1 2 3 4 5 k))
      negation_runs b =
          let f = made_free_one to free (length locals) to_fits free_fits a clear in
          let straight = negated_goes links.traps k in
          inline_runs plan told fell roof g world store top heap locals to free pages m host (suc deep) room to_fits (one_place free (made_in to free (a ∷ [])) a) mine_one 6 (own_one free (length locals) (made_in to free (a ∷ [])) a _ f) (one_written to free a)
          (I64 ∷ []) n (some_of (Negation k x) 1 (omega arith)) (negate links.traps 1 2 3 4 5 k (Local 0) (returns 1)) (arguments 1) single straight.0 straight.1 (agree_one (made_in to free (a ∷ []))) b

    traps_one : (store : Store W) (args : List ℕ) (q : CallEnd W → Type 0) → q (host_end store (host host_trap args store.memory store.world)) → ComesTo (enter (suc deep) pages m host room) host_trap store args q
    traps_one store args q h = host_traps pages m host deep room store args q h

    abbrev D : Contracts W
    D = does plan told fell roof g world store top heap locals to free pages m host (suc deep) room

    pub negates_by : (k : Kind) (r : InRange k x) → Negates k r k
    negates_by Nat r = negate_natural pages m host D traps_one links.traps store (Ends 60 (n Nat r)) Nat (2 ^ 63 - 1) (record { first = refl; last = refl }) (omega arith) x r (then_one Nat r)
    negates_by Int r = negate_signed pages m host D traps_one links.traps store (Ends 60 (n Int r)) Int (2 ^ 63) (record { first = refl; last = refl; some = omega arith }) (omega arith) x r (then_one Int r)
    negates_by Nat8 r = negate_natural pages m host D traps_one links.traps store (Ends 60 (n Nat8 r)) Nat8 (2 ^ 8 - 1) (record { first = refl; last = refl }) (omega arith) x r (then_one Nat8 r)
    negates_by Nat16 r = negate_natural pages m host D traps_one links.traps store (Ends 60 (n Nat16 r)) Nat16 (2 ^ 16 - 1) (record { first = refl; last = refl }) (omega arith) x r (then_one Nat16 r)
    negates_by Nat32 r = negate_natural pages m host D traps_one links.traps store (Ends 60 (n Nat32 r)) Nat32 (2 ^ 32 - 1) (record { first = refl; last = refl }) (omega arith) x r (then_one Nat32 r)
    negates_by Nat64 r = negate_natural pages m host D traps_one links.traps store (Ends 60 (n Nat64 r)) Nat64 (2 ^ 64 - 1) (record { first = refl; last = refl }) (omega arith) x r (then_one Nat64 r)
    negates_by Int8 r = negate_signed pages m host D traps_one links.traps store (Ends 60 (n Int8 r)) Int8 (2 ^ 7) (record { first = refl; last = refl; some = omega arith }) (omega arith) x r (then_one Int8 r)
    negates_by Int16 r = negate_signed pages m host D traps_one links.traps store (Ends 60 (n Int16 r)) Int16 (2 ^ 15) (record { first = refl; last = refl; some = omega arith }) (omega arith) x r (then_one Int16 r)
    negates_by Int32 r = negate_signed pages m host D traps_one links.traps store (Ends 60 (n Int32 r)) Int32 (2 ^ 31) (record { first = refl; last = refl; some = omega arith }) (omega arith) x r (then_one Int32 r)
    negates_by Int64 r = negate_signed pages m host D traps_one links.traps store (Ends 60 (n Int64 r)) Int64 (2 ^ 63) (record { first = refl; last = refl; some = omega arith }) (omega arith) x r (then_one Int64 r)
