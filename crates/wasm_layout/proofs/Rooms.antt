-- Whether a module is too large, function by function.
use Rattle.std.proofs.Common.{◌≡◌, ℕ, ◌+◌, ◌-◌, ◌<◌, ◌≤◌, ◌^◌, List, length, get_or, take, Some, arith, refl, sym, ap, ◌∙◌}
use Rattle.std.proofs.Common.{below_more, Bool, true, false}
use Rattle.std.proofs.lemmas.Bool.{false≢true}
use Rattle.std.specs.Prelude.{IsTrue}
use Rattle.wasm_tree.specs.declared.module_parts.Locals.{Locals}
use Rattle.std.specs.Prelude.{slice_get}
use Rattle.std.proofs.lemmas.List.Sums.{sum_by_more_le, sum_by_more}
use Rattle.std.proofs.lemmas.Option.{slice_get_read, slice_get_within}
use Rattle.wasm_tree.specs.declared.module_parts.Function.{Function}
use Rattle.wasm_layout.specs.Sizes.{locals_of, room_of, IsTooLarge, TooMuchCode, TooManyLocals, IsSmall}

-- The functions before this one have few locals.
abbrev pub EachSmall : List Function → ℕ → Type 0
EachSmall fs i = (place : ℕ) → place < i → (f : Function) → slice_get fs place ≡ Some f → locals_of f.locals < 2 ^ 32

module _ (fs : List Function) (i : ℕ) (f : Function) (lt : i < length fs) (is : f ≡ get_or fs i f) where
  there : slice_get fs i ≡ Some f
  there = slice_get_read fs (length fs) i f refl lt is

  pub too_much : (room : ℕ) → room ≡ room_of (take i fs) → 2 ^ 32 - 1 - room ≤ length f.body → IsTooLarge fs
  too_much room e over =
      let m = sum_by_more_le (λ (g : Function). length g.body + 1) fs i f lt in
      let k : length (get_or fs i f).body ≡ length f.body = ap (λ (g : Function). length g.body) (sym is) in
      TooMuchCode (omega (arith, m, k))

  pub too_many : 2 ^ 32 ≤ locals_of f.locals → IsTooLarge fs
  too_many over = TooManyLocals i f there over

  -- One function more.
  pub small_more : EachSmall fs i → locals_of f.locals < 2 ^ 32 → EachSmall fs (i + 1)
  small_more each here = below_more (λ place. (g : Function) → slice_get fs place ≡ Some g → locals_of g.locals < 2 ^ 32) i each one
    where
      one : (g : Function) → slice_get fs i ≡ Some g → locals_of g.locals < 2 ^ 32
      one g at = let same : Some f ≡ Some g = sym there ∙ at in let k : f ≡ g = cc in rw (← k) here

  -- The room with this function.
  pub room_more : (room : ℕ) → room ≡ room_of (take i fs) → room + (length f.body + 1) ≡ room_of (take (i + 1) fs)
  room_more room e =
      let m = sum_by_more (λ (g : Function). length g.body + 1) fs i f lt in
      let k : length (get_or fs i f).body ≡ length f.body = ap (λ (g : Function). length g.body) (sym is) in
      omega (arith, m, k)

-- All functions.
pub all_small : (fs : List Function) (i : ℕ) → length fs ≤ i → room_of fs < 2 ^ 32 → EachSmall fs i → IsSmall fs
all_small fs i over few each = record { code = few; locals = λ place f at. each place (omega (arith, slice_get_within fs place f at)) f at }

-- What the test of the locals answered.
module _ (b : Bool) (gs hs : List Locals) (same : gs ≡ hs) (is : (IsTrue b → locals_of gs < 2 ^ 32) × (locals_of gs < 2 ^ 32 → IsTrue b)) where
  pub few_is : b ≡ true → locals_of hs < 2 ^ 32
  few_is e = let h : locals_of gs < 2 ^ 32 = is.0 e in rw (← same) h

  pub many_is : b ≡ false → 2 ^ 32 ≤ locals_of hs
  many_is e =
      let no : locals_of gs < 2 ^ 32 → ⊥ = λ h. false≢true (sym e ∙ is.1 h) in
      let over : 2 ^ 32 ≤ locals_of gs = omega arith in
      rw (← same) over
