-- The routines of numbers keep their lines of the table.
use Rattle.std.proofs.Common.{◌≡◌, inl, ℕ, zero, suc, ◌+◌, ◌*◌, ◌<◌, ◌≤◌, ◌^◌, max, List, [], ◌∷◌, Bool, true, false, ◌&&◌, cond, Some, Result, Ok, Err, ℤ, pos, negsuc, refl, sym, ap, ◌∙◌, subst, arith}
use Rattle.std.specs.Prelude.{int_le, int_lt, int_div, int_rem}
use Rattle.std.specs.Int.{int_pow}
use Rattle.std.specs.Ordering.{int_eq}
use Rattle.std.proofs.lemmas.Int.{ints}
use Rattle.mo_num.specs.declared.kind.Kind.{Kind}
use Rattle.mo_num.specs.declared.operator.NumTrap.{NumTrap}
use Rattle.mo_num.specs.declared.operator.NumTrap.TheVariants.{Overflow}
use Rattle.mo_num.specs.declared.operator.Operator.{Operator}
use Rattle.mo_num.specs.declared.operator.Operator.TheVariants as operator
use Rattle.mo_num.specs.Kinds.{least, greatest, InRange}
use Rattle.mo_num.specs.Arith.{Arith, Negation, within, below, divided}
use Rattle.mo_num.proofs.Ranges.{in_bounds}
use Rattle.mo_types.specs.declared.datum.Datum.{Datum}
use Rattle.mo_types.specs.declared.datum.Datum.TheVariants as part
use Rattle.mo_types.specs.declared.node.Node.{Node}
use Rattle.mo_types.specs.declared.node.Node.TheVariants as node
use Rattle.mo_types.specs.declared.node.TypeId.{TypeId}
use Rattle.mo_values.specs.declared.operation.Scalar.TheVariants as scalar
use Rattle.mo_values.specs.Costs.{weighing, arithmetic_weight}
use Rattle.mo_values.specs.Messages.{only_if}
use Rattle.mo_values.specs.Numbers.{exact, wrapped, before, compared}
use Rattle.mo_values.specs.Operations as operations
use Rattle.mo_values.specs.Operations.{number_text}
use Rattle.mo_values.specs.Parts.{is_in_range, same_part}
use Rattle.mo_values.specs.Shapes.{Leaf, Present, Tuple, Array, Object, Tag, Error, Cell, Future, Made, Function, NoShape, AShape, leaf}
use Rattle.mo_values.specs.Views as views
use Rattle.mo_values.specs.Views.{Answer, given, number_in, leaf_if, number_of, scalar_of}
use Rattle.mo_values.proofs.Wrapped.{is_wrapped}
use Rattle.core_ir.specs.Primitives.{Done, Gives, Stuck, answered}
use Rattle.core_ir.specs.Values.{Handle, Value}
use Rattle.core_ir.specs.Worlds.{World as CoreWorld}
use Rattle.wasm_tree.specs.declared.types.ValueType.TheVariants.{I64}
use Rattle.wasm_tree.specs.Numeric as numeric
use Rattle.wasm_tree.specs.Exec.{Store, Host, bits32, bits64}
use Rattle.low_ir.specs.Frames.{enter}
use Rattle.low_ir.specs.Meaning.{Calls}
use Rattle.low_ir.specs.Tree.{Module}
use Rattle.low_rules.specs.Rule.{CallEnd, Comes, ComesTo}
use Rattle.low_rules.proofs.Entering.{weaker}
use Rattle.memory_routines.specs.Heaps.{heap_end, pages_for}
use Rattle.heap_layout.specs.Ghosts.{Ghost}
use Rattle.heap_layout.specs.Means.{Means, Rep, Reps}
use Rattle.heap_layout.specs.Heaps.{Plan}
use Rattle.heap_layout.specs.Table.{steps_for, StandsAt, Here, Gave, Trapped, EndsAs, LineEnds, cost_of}
use Rattle.heap_layout.proofs.Meanings.{same_later}
use Rattle.heap_layout.proofs.Begins.{texts_stand}
use Rattle.number_routines.specs.declared.places.TrapPlaces.{TrapPlaces}
use Rattle.number_routines.specs.Codes.{place}
use Rattle.number_routines.specs.Lines.{Results, Answers, Tells}
use Rattle.number_routines.specs.Laws.{IsThere}
use Rattle.number_routines.proofs.Calculated.{arithmetic_kept}
use Rattle.number_routines.proofs.Kept.{negation_kept, wrapping_kept, order_kept, sameness_kept}
use Rattle.number_routines.proofs.PowerKinds.{power_kept}
use Rattle.number_lines.specs.Laws.{HaveTexts, arithmetic_routine, ArithmeticIsOfTheTable, NegationIsOfTheTable, WrappingIsOfTheTable, OrderIsOfTheTable, SamenessIsOfTheTable}

-- ---- results are values of their kinds

within_in : (k : Kind) (t : NumTrap) (z n : ℤ) → within k t z ≡ Ok n → InRange k n
within_in k t z n e = by (int_le (least k) z) refl (int_le z (greatest k)) refl e
  where
    by : (s : Bool) → int_le (least k) z ≡ s → (u : Bool) → int_le z (greatest k) ≡ u → cond {A = Result ℤ NumTrap} (s && u) (Ok z) (Err t) ≡ Ok n → InRange k n
    by true p true q e = let same : z ≡ n = cc in subst (InRange k) same (omega (arith, ints, p), omega (arith, ints, q))
    by true p false q e = absurd (cc e)
    by false p u q e = absurd (cc e)

divided_in : (b : ℤ) (k : Kind) (z n : ℤ) → divided b (within k Overflow z) ≡ Ok n → InRange k n
divided_in (pos zero) k z n e = absurd (cc e)
divided_in (pos (suc b)) k z n e = within_in k Overflow z n e
divided_in (negsuc b) k z n e = within_in k Overflow z n e

arith_in : (o : Operator) (k : Kind) (a b n : ℤ) → Arith o k a b ≡ Ok n → InRange k n
arith_in operator.Add k a b n e = within_in k Overflow _ n e
arith_in operator.Sub k a b n e = within_in k (below k) _ n e
arith_in operator.Mul k a b n e = within_in k Overflow _ n e
arith_in operator.Div k a b n e = divided_in b k (int_div a b) n e
arith_in operator.Rem k a b n e = divided_in b k (int_rem a b) n e
arith_in operator.Pow k a (pos b) n e = within_in k Overflow (int_pow a b) n e
arith_in operator.Pow k a (negsuc b) n e = absurd (cc e)

range_small : (k : Kind) (n : ℤ) → InRange k n → bits64 n < 2 ^ 64
range_small k (pos n) r = let b = in_bounds k (pos n) r in let hi = b.1 in omega (arith, ints, hi)
range_small k (negsuc n) r = omega arith

flag_small : (b : Bool) → numeric.flag b < 2 ^ 64
flag_small true = omega arith
flag_small false = omega arith

-- ---- operands that are numbers of a kind

in_range_of : (k : Kind) (n : ℤ) → is_in_range k n ≡ true → InRange k n
in_range_of k n e = by (int_le (least k) n) refl (int_le n (greatest k)) refl e
  where
    by : (s : Bool) → int_le (least k) n ≡ s → (u : Bool) → int_le n (greatest k) ≡ u → (s && u) ≡ true → InRange k n
    by true p true q e = (omega (arith, ints, p), omega (arith, ints, q))
    by true p false q e = absurd (cc e)
    by false p u q e = absurd (cc e)

module _ (B : Answer Handle → Type 0) (k : Kind) (otherwise : B views.Stuck) where
  scalar_leaf : (p : Datum) (F : Datum → Answer Handle) → ((n : ℤ) → p ≡ part.Number n → InRange k n → B (F (part.Number n))) → B (given (leaf_if (node.Number k) (Some p)) F)
  scalar_leaf (part.Number n) F then = by (is_in_range k n) refl
    where
      by : (t : Bool) → is_in_range k n ≡ t → B (given (only_if t (part.Number n)) F)
      by true e = then n refl (in_range_of k n e)
      by false e = otherwise
  scalar_leaf part.Null F then = otherwise
  scalar_leaf (part.Flag b) F then = otherwise
  scalar_leaf (part.Char c) F then = otherwise
  scalar_leaf (part.Text t) F then = otherwise
  scalar_leaf (part.Blob t) F then = otherwise
  scalar_leaf (part.Principal t) F then = otherwise
  scalar_leaf (part.Actor t) F then = otherwise
  scalar_leaf (part.Method t n) F then = otherwise
  scalar_leaf part.Present F then = otherwise
  scalar_leaf (part.Many n) F then = otherwise
  scalar_leaf (part.Record n) F then = otherwise
  scalar_leaf (part.Tag n) F then = otherwise

  by_scalar : (v : Value) (F : Datum → Answer Handle) → ((n : ℤ) → v ≡ leaf (part.Number n) → InRange k n → B (F (part.Number n))) → B (given (scalar_of (scalar.Number k) v) F)
  by_scalar (Made (Leaf p) NoShape) F then = scalar_leaf p F (λ n e r. then n (ap (λ p. Made (Leaf p) NoShape) e) r)
  by_scalar (Made (Leaf p) (AShape v vs)) F then = otherwise
  by_scalar (Made Present vs) F then = otherwise
  by_scalar (Made Tuple vs) F then = otherwise
  by_scalar (Made Array vs) F then = otherwise
  by_scalar (Made (Object ls) vs) F then = otherwise
  by_scalar (Made (Tag l) vs) F then = otherwise
  by_scalar (Made (Error c t) vs) F then = otherwise
  by_scalar (Made (Cell n) vs) F then = otherwise
  by_scalar (Made (Future n) vs) F then = otherwise
  by_scalar (Function f) F then = otherwise

  number_leaf : (p : Datum) (F : ℤ → Answer Handle) → ((n : ℤ) → p ≡ part.Number n → InRange k n → B (F n)) → B (given (number_in (leaf_if (node.Number k) (Some p))) F)
  number_leaf (part.Number n) F then = by (is_in_range k n) refl
    where
      by : (t : Bool) → is_in_range k n ≡ t → B (given (number_in (only_if t (part.Number n))) F)
      by true e = then n refl (in_range_of k n e)
      by false e = otherwise
  number_leaf part.Null F then = otherwise
  number_leaf (part.Flag b) F then = otherwise
  number_leaf (part.Char c) F then = otherwise
  number_leaf (part.Text t) F then = otherwise
  number_leaf (part.Blob t) F then = otherwise
  number_leaf (part.Principal t) F then = otherwise
  number_leaf (part.Actor t) F then = otherwise
  number_leaf (part.Method t n) F then = otherwise
  number_leaf part.Present F then = otherwise
  number_leaf (part.Many n) F then = otherwise
  number_leaf (part.Record n) F then = otherwise
  number_leaf (part.Tag n) F then = otherwise

  by_number : (v : Value) (F : ℤ → Answer Handle) → ((n : ℤ) → v ≡ leaf (part.Number n) → InRange k n → B (F n)) → B (given (number_of k v) F)
  by_number (Made (Leaf p) NoShape) F then = number_leaf p F (λ n e r. then n (ap (λ p. Made (Leaf p) NoShape) e) r)
  by_number (Made (Leaf p) (AShape v vs)) F then = otherwise
  by_number (Made Present vs) F then = otherwise
  by_number (Made Tuple vs) F then = otherwise
  by_number (Made Array vs) F then = otherwise
  by_number (Made (Object ls) vs) F then = otherwise
  by_number (Made (Tag l) vs) F then = otherwise
  by_number (Made (Error c t) vs) F then = otherwise
  by_number (Made (Cell n) vs) F then = otherwise
  by_number (Made (Future n) vs) F then = otherwise
  by_number (Function f) F then = otherwise

-- ---- words of operands

record Two (g : Ghost) (memory : List ℕ) (ws : List ℕ) (v w : Value) : Type 0 where
  x : ℕ
  y : ℕ
  are : ws ≡ x ∷ y ∷ []
  first : Rep g memory x v
  second : Rep g memory y w

two_words : (g : Ghost) (memory ws : List ℕ) (v w : Value) → Reps g memory ws (v ∷ w ∷ []) → Two g memory ws v w
two_words g memory [] v w r = absurd r
two_words g memory (x ∷ []) v w r = absurd r.1
two_words g memory (x ∷ y ∷ []) v w r = record { x = x; y = y; are = refl; first = r.0; second = r.1.0 }
two_words g memory (x ∷ y ∷ z ∷ ws) v w r = absurd r.1.1

record One (g : Ghost) (memory : List ℕ) (ws : List ℕ) (v : Value) : Type 0 where
  x : ℕ
  are : ws ≡ x ∷ []
  first : Rep g memory x v

one_word : (g : Ghost) (memory ws : List ℕ) (v : Value) → Reps g memory ws (v ∷ []) → One g memory ws v
one_word g memory [] v r = absurd r
one_word g memory (x ∷ []) v r = record { x = x; are = refl; first = r.0 }
one_word g memory (x ∷ y ∷ ws) v r = absurd r.1

word_is : (g : Ghost) (memory : List ℕ) (x : ℕ) (v : Value) (a : ℤ) → Rep g memory x v → v ≡ leaf (part.Number a) → x ≡ bits64 a
word_is g memory x v a r e = let m : Means g memory x (leaf (part.Number a)) = subst (λ v. Means g memory x v) e r.means in m

two_are : (g : Ghost) (memory ws : List ℕ) (v w : Value) (a b : ℤ) → Reps g memory ws (v ∷ w ∷ []) → v ≡ leaf (part.Number a) → w ≡ leaf (part.Number b) → ws ≡ bits64 a ∷ bits64 b ∷ []
two_are g memory ws v w a b r e f =
    let t = two_words g memory ws v w r in
    let x = word_is g memory t.x v a t.first e in
    let y = word_is g memory t.y w b t.second f in
    t.are ∙ (λ i. x i ∷ y i ∷ [])

one_is : (g : Ghost) (memory ws : List ℕ) (v : Value) (a : ℤ) → Reps g memory ws (v ∷ []) → v ≡ leaf (part.Number a) → ws ≡ bits64 a ∷ []
one_is g memory ws v a r e = let t = one_word g memory ws v r in let x = word_is g memory t.x v a t.first e in t.are ∙ (λ i. x i ∷ [])

-- ---- how calls end, where they change nothing

module _ {World : Type 0} (head : TypeId → Node TypeId) (plan : Plan) (host : Host World) (g : Ghost) (world : CoreWorld) (store : Store World) (memory : List ℕ) (count top : ℕ) (others : List ℕ) (here : Here head plan host g world store memory count top others) where
  abbrev Ends : Done → CallEnd World → Type 0
  Ends d end = EndsAs head plan host g world store memory top others d end

  unchanged : (weight cost w : ℕ) (v : Value) → cost ≤ steps_for weight → w < 2 ^ 64 → Means g memory w v → Gave head plan host g world store memory top others weight v world.store (Comes cost store (Some w))
  unchanged weight cost w v few small means = record {
    ghost = g;
    grown = memory;
    count = count;
    end_of_heap = top;
    word = w;
    steps = cost;
    is = ap (λ s. Comes cost s (Some w)) here.is;
    few = few;
    bytes = omega arith;
    holds = here.holds;
    later = same_later g memory;
    rep = record { small = small; means = means };
  }

  results_end : (n : ℤ) (most weight : ℕ) → most ≤ steps_for weight → bits64 n < 2 ^ 64 → (end : CallEnd World) → Results store most n end → Ends (Gives (weighing weight) (leaf (part.Number n)) world.store) end
  results_end n most weight le small end r = subst (λ e. Gave head plan host g world store memory top others weight (leaf (part.Number n)) world.store e) (sym r.2) (unchanged weight r.0 (bits64 n) (leaf (part.Number n)) (let few = r.1 in omega (arith, few, le)) small refl)

  tells_end : (b : Bool) (most weight : ℕ) → most ≤ steps_for weight → (end : CallEnd World) → Tells store most b end → Ends (Gives (weighing weight) (leaf (part.Flag b)) world.store) end
  tells_end b most weight le end r = subst (λ e. Gave head plan host g world store memory top others weight (leaf (part.Flag b)) world.store e) (sym r.2) (unchanged weight r.0 (numeric.flag b) (leaf (part.Flag b)) (let few = r.1 in omega (arith, few, le)) (flag_small b) refl)

  module _ (at : TrapPlaces) (texts : HaveTexts plan at) where
    answers_end : (r : Result ℤ NumTrap) (most weight : ℕ) → most ≤ steps_for weight → ((n : ℤ) → r ≡ Ok n → bits64 n < 2 ^ 64) → (end : CallEnd World) → Answers host at store most r end → Ends (answered head world.store (weighing weight) (operations.number r)) end
    answers_end (Ok n) most weight le small end a = results_end n most weight le (small n refl) end a
    answers_end (Err t) most weight le small end a =
        subst (λ e. Trapped head plan host store weight (number_text t) e) (sym a.2)
        (record {
          address = bits32 (place at t);
          steps = a.0;
          stands = subst (λ m. StandsAt m (bits32 (place at t)) (number_text t)) (sym (ap (λ s. s.memory) here.is)) (texts_stand plan g world memory count top here.holds (bits32 (place at t)) (number_text t) (texts t));
          few = let few = a.1 in omega (arith, few, le);
          is = refl;
        })

-- ---- the lines

abbrev arithmetic_most : Operator → ℕ
arithmetic_most operator.Pow = 3800
arithmetic_most o = 60

most_paid : (o : Operator) → arithmetic_most o ≤ steps_for (arithmetic_weight o)
most_paid operator.Add = omega arith
most_paid operator.Sub = omega arith
most_paid operator.Mul = omega arith
most_paid operator.Div = omega arith
most_paid operator.Rem = omega arith
most_paid operator.Pow = omega arith

arithmetic_call : (World : Type 0) (pages : ℕ) (m : Module) (host : Host World) (at : TrapPlaces) (o : Operator) (k : Kind) (f signature : ℕ) → IsThere m f (I64 ∷ I64 ∷ []) (arithmetic_routine signature at o k)
    → (deep room : ℕ) → 2 ≤ deep → 24 ≤ room → (store : Store World) (a b : ℤ) → InRange k a → InRange k b → ComesTo (enter deep pages m host room) f store (bits64 a ∷ bits64 b ∷ []) (Answers host at store (arithmetic_most o) (Arith o k a b))
arithmetic_call World pages m host at operator.Add k f signature there deep room less fits store a b r s = arithmetic_kept World pages m host at operator.Add k tt f signature there deep room less (omega (arith, fits)) store a b r s
arithmetic_call World pages m host at operator.Sub k f signature there deep room less fits store a b r s = arithmetic_kept World pages m host at operator.Sub k tt f signature there deep room less (omega (arith, fits)) store a b r s
arithmetic_call World pages m host at operator.Mul k f signature there deep room less fits store a b r s = arithmetic_kept World pages m host at operator.Mul k tt f signature there deep room less (omega (arith, fits)) store a b r s
arithmetic_call World pages m host at operator.Div k f signature there deep room less fits store a b r s = arithmetic_kept World pages m host at operator.Div k tt f signature there deep room less (omega (arith, fits)) store a b r s
arithmetic_call World pages m host at operator.Rem k f signature there deep room less fits store a b r s = arithmetic_kept World pages m host at operator.Rem k tt f signature there deep room less (omega (arith, fits)) store a b r s
arithmetic_call World pages m host at operator.Pow k f signature there deep room less fits store a b r s = power_kept World pages m host at k f signature there deep room less fits store a b r s

module _ {World : Type 0} (pages : ℕ) (calls : Calls World) (f : ℕ) (host : Host World) (head : TypeId → Node TypeId) (plan : Plan) (g : Ghost) (world : CoreWorld) (store : Store World) (memory : List ℕ) (count top : ℕ) (others : List ℕ) (ws : List ℕ) (weight most : ℕ) where
  -- what is owed of an answer with this weight
  abbrev Owed : Answer Handle → Type 0
  Owed x =
      (answered head world.store (weighing weight) x ≡ Stuck → ⊥) → (cost_of head plan host (answered head world.store (weighing weight) x)).levels ≤ most
      → ComesTo calls f store ws (LineEnds head plan host pages g world store memory count top others (answered head world.store (weighing weight) x))

  none_owed : Owed views.Stuck
  none_owed ns = absurd (ns refl)

pub arithmetic_tabled : (World : Type 0) → ArithmeticIsOfTheTable World
arithmetic_tabled World pages m host head plan at texts o k f signature there deep room less fits most g world store memory count top others here ws [] reps = λ ns. absurd (ns refl)
arithmetic_tabled World pages m host head plan at texts o k f signature there deep room less fits most g world store memory count top others here ws (v ∷ []) reps = λ ns. absurd (ns refl)
arithmetic_tabled World pages m host head plan at texts o k f signature there deep room less fits most g world store memory count top others here ws (v ∷ w ∷ u ∷ vs) reps = λ ns. absurd (ns refl)
arithmetic_tabled World pages m host head plan at texts o k f signature there deep room less fits most g world store memory count top others here ws (v ∷ w ∷ []) reps =
    let calls : Calls World = enter deep pages m host room in
    let B : Answer Handle → Type 0 = Owed pages calls f host head plan g world store memory count top others ws (arithmetic_weight o) most in
    let none : B views.Stuck = none_owed pages calls f host head plan g world store memory count top others ws (arithmetic_weight o) most in
    by_number B k none v (λ a. given (number_of k w) (λ b. operations.number (Arith o k a b)))
    (λ a e r. by_number B k none w (λ b. operations.number (Arith o k a b))
    (λ b h s ns few_levels.
    subst (λ ws. ComesTo calls f store ws (LineEnds head plan host pages g world store memory count top others (answered head world.store (weighing (arithmetic_weight o)) (operations.number (Arith o k a b))))) (sym (two_are g memory ws v w a b reps e h))
    (weaker calls f store (bits64 a ∷ bits64 b ∷ []) (Answers host at store (arithmetic_most o) (Arith o k a b)) _
    (λ end met. inl (answers_end head plan host g world store memory count top others here at texts (Arith o k a b) (arithmetic_most o) (arithmetic_weight o) (most_paid o) (λ n q. range_small k n (arith_in o k a b n q)) end met))
    (arithmetic_call World pages m host at o k f signature there deep room less fits store a b r s))))

pub negation_tabled : (World : Type 0) → NegationIsOfTheTable World
negation_tabled World pages m host head plan at texts k f signature there deep room less fits most g world store memory count top others here ws [] reps = λ ns. absurd (ns refl)
negation_tabled World pages m host head plan at texts k f signature there deep room less fits most g world store memory count top others here ws (v ∷ w ∷ vs) reps = λ ns. absurd (ns refl)
negation_tabled World pages m host head plan at texts k f signature there deep room less fits most g world store memory count top others here ws (v ∷ []) reps =
    let calls : Calls World = enter deep pages m host room in
    let B : Answer Handle → Type 0 = Owed pages calls f host head plan g world store memory count top others ws 1 most in
    let none : B views.Stuck = none_owed pages calls f host head plan g world store memory count top others ws 1 most in
    by_number B k none v (λ a. operations.number (Negation k a))
    (λ a e r ns few_levels.
    subst (λ ws. ComesTo calls f store ws (LineEnds head plan host pages g world store memory count top others (answered head world.store (weighing 1) (operations.number (Negation k a))))) (sym (one_is g memory ws v a reps e))
    (weaker calls f store (bits64 a ∷ []) (Answers host at store 60 (Negation k a)) _
    (λ end met. inl (answers_end head plan host g world store memory count top others here at texts (Negation k a) 60 1 (omega arith) (λ n q. range_small k n (within_in k Overflow _ n q)) end met))
    (negation_kept World pages m host at k f signature there deep room less (omega (arith, fits)) store a r)))

pub wrapping_tabled : (World : Type 0) → WrappingIsOfTheTable World
wrapping_tabled World pages m host head plan o k wide f signature there deep room less fits most g world store memory count top others here ws [] reps = λ ns. absurd (ns refl)
wrapping_tabled World pages m host head plan o k wide f signature there deep room less fits most g world store memory count top others here ws (v ∷ []) reps = λ ns. absurd (ns refl)
wrapping_tabled World pages m host head plan o k wide f signature there deep room less fits most g world store memory count top others here ws (v ∷ w ∷ u ∷ vs) reps = λ ns. absurd (ns refl)
wrapping_tabled World pages m host head plan o k wide f signature there deep room less fits most g world store memory count top others here ws (v ∷ w ∷ []) reps =
    let calls : Calls World = enter deep pages m host room in
    let B : Answer Handle → Type 0 = Owed pages calls f host head plan g world store memory count top others ws 1 most in
    let none : B views.Stuck = none_owed pages calls f host head plan g world store memory count top others ws 1 most in
    subst (λ t. B (given (only_if t k) (λ k. given (number_of k v) (λ a. given (number_of k w) (λ b. views.Gives (leaf (part.Number (wrapped k (exact o a b))))))))) (sym wide)
    (by_number B k none v (λ a. given (number_of k w) (λ b. views.Gives (leaf (part.Number (wrapped k (exact o a b))))))
    (λ a e r. by_number B k none w (λ b. views.Gives (leaf (part.Number (wrapped k (exact o a b)))))
    (λ b h s ns few_levels.
    subst (λ ws. ComesTo calls f store ws (LineEnds head plan host pages g world store memory count top others (answered head world.store (weighing 1) (views.Gives (leaf (part.Number (wrapped k (exact o a b)))))))) (sym (two_are g memory ws v w a b reps e h))
    (weaker calls f store (bits64 a ∷ bits64 b ∷ []) (Results store 60 (wrapped k (exact o a b))) _
    (λ end met. inl (results_end head plan host g world store memory count top others here (wrapped k (exact o a b)) 60 1 (omega arith) (range_small k (wrapped k (exact o a b)) (is_wrapped k (exact o a b)).in_range) end met))
    (wrapping_kept World pages m host o k wide f signature there deep room less (omega (arith, fits)) store a b r s)))))

pub order_tabled : (World : Type 0) → OrderIsOfTheTable World
order_tabled World pages m host head plan o k f signature there deep room less fits most g world store memory count top others here ws [] reps = λ ns. absurd (ns refl)
order_tabled World pages m host head plan o k f signature there deep room less fits most g world store memory count top others here ws (v ∷ []) reps = λ ns. absurd (ns refl)
order_tabled World pages m host head plan o k f signature there deep room less fits most g world store memory count top others here ws (v ∷ w ∷ u ∷ vs) reps = λ ns. absurd (ns refl)
order_tabled World pages m host head plan o k f signature there deep room less fits most g world store memory count top others here ws (v ∷ w ∷ []) reps =
    let calls : Calls World = enter deep pages m host room in
    let B : Answer Handle → Type 0 = Owed pages calls f host head plan g world store memory count top others ws 1 most in
    let none : B views.Stuck = none_owed pages calls f host head plan g world store memory count top others ws 1 most in
    by_scalar B k none v (λ p. given (scalar_of (scalar.Number k) w) (λ q. given (before p q) (λ first. given (before q p) (λ second. operations.flag (compared o first second)))))
    (λ a e r. by_scalar B k none w (λ q. given (before (part.Number a) q) (λ first. given (before q (part.Number a)) (λ second. operations.flag (compared o first second))))
    (λ b h s ns few_levels.
    subst (λ ws. ComesTo calls f store ws (LineEnds head plan host pages g world store memory count top others (answered head world.store (weighing 1) (operations.flag (compared o (int_lt a b) (int_lt b a)))))) (sym (two_are g memory ws v w a b reps e h))
    (weaker calls f store (bits64 a ∷ bits64 b ∷ []) (Tells store 60 (compared o (int_lt a b) (int_lt b a))) _
    (λ end met. inl (tells_end head plan host g world store memory count top others here (compared o (int_lt a b) (int_lt b a)) 60 1 (omega arith) end met))
    (order_kept World pages m host o k f signature there deep room less (omega (arith, fits)) store a b r s))))

pub sameness_tabled : (World : Type 0) → SamenessIsOfTheTable World
sameness_tabled World pages m host head plan k f signature there deep room less fits most g world store memory count top others here ws [] reps = λ ns. absurd (ns refl)
sameness_tabled World pages m host head plan k f signature there deep room less fits most g world store memory count top others here ws (v ∷ []) reps = λ ns. absurd (ns refl)
sameness_tabled World pages m host head plan k f signature there deep room less fits most g world store memory count top others here ws (v ∷ w ∷ u ∷ vs) reps = λ ns. absurd (ns refl)
sameness_tabled World pages m host head plan k f signature there deep room less fits most g world store memory count top others here ws (v ∷ w ∷ []) reps =
    let calls : Calls World = enter deep pages m host room in
    let B : Answer Handle → Type 0 = Owed pages calls f host head plan g world store memory count top others ws 1 most in
    let none : B views.Stuck = none_owed pages calls f host head plan g world store memory count top others ws 1 most in
    by_scalar B k none v (λ p. given (scalar_of (scalar.Number k) w) (λ q. operations.flag (same_part p q)))
    (λ a e r. by_scalar B k none w (λ q. operations.flag (same_part (part.Number a) q))
    (λ b h s ns few_levels.
    subst (λ ws. ComesTo calls f store ws (LineEnds head plan host pages g world store memory count top others (answered head world.store (weighing 1) (operations.flag (int_eq a b))))) (sym (two_are g memory ws v w a b reps e h))
    (weaker calls f store (bits64 a ∷ bits64 b ∷ []) (Tells store 60 (int_eq a b)) _
    (λ end met. inl (tells_end head plan host g world store memory count top others here (int_eq a b) 60 1 (omega arith) end met))
    (sameness_kept World pages m host k f signature there deep room less (omega (arith, fits)) store a b r s))))
