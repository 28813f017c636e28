-- Items of one event: which kinds an execution gives that completes, and what a test says of a list of them.
use Rattle.std.proofs.Common.{◌≡◌, ℕ, ◌+◌, Bool, true, false, ◌||◌, List, [], ◌∷◌, ◌++◌, refl, sym, ap, ap₂, codes, true≢false}
use Rattle.std.specs.List.{list_any, AllByRecursion}
use Rattle.play_script.specs.declared.item.Item.{Item}
use Rattle.play_script.specs.declared.item.Item.TheVariants as item
use Rattle.play_script.specs.declared.item.Word.{Word}
use Rattle.mo_types.specs.Calls.{next_number}
use Rattle.mo_actor.specs.Languages.{Language}
use Rattle.mo_actor.specs.Programs.{Replies, Rejects, OutgoingCall, Ending, Answers, Awaits, AwaitsNothing, Unchanged, Effects}
use Rattle.mo_actor.specs.States.{Actor}
use Rattle.mo_actor.specs.Outcomes.{print_items, trap_items, call_items, answer_items, close}
use Rattle.mo_actor.specs.Completions.{committed, complete, after_query}
use Rattle.mo_actor.proofs.Lists.{all_append}
use Rattle.mo_actor.proofs.Outcomes.{closes}

module _ (test : Item → Bool) where
  abbrev pub NoneOf : List Item → Type 0
  NoneOf items = AllByRecursion (λ i. test i ≡ false) items

  pub any_none : (items : List Item) → NoneOf items → list_any test items ≡ false
  any_none [] none = refl
  any_none (i ∷ items) none = ap₂ (λ x y. x || y) none.0 (any_none items none.1)

  or_false : (x y : Bool) → (x || y) ≡ false → (x ≡ false) × (y ≡ false)
  or_false true y e = absurd (true≢false e)
  or_false false y e = (refl, e)

  or_true : (x y : Bool) → y ≡ true → (x || y) ≡ true
  or_true true y e = refl
  or_true false y e = e

  pub any_front : (xs ys : List Item) → list_any test (xs ++ ys) ≡ false → list_any test xs ≡ false
  any_front [] ys e = refl
  any_front (x ∷ xs) ys e =
      let both : (test x ≡ false) × (list_any test (xs ++ ys) ≡ false) = or_false (test x) (list_any test (xs ++ ys)) e in
      ap₂ (λ x y. x || y) both.0 (any_front xs ys both.1)

  pub any_back : (xs ys : List Item) → list_any test (xs ++ ys) ≡ false → list_any test ys ≡ false
  any_back [] ys e = e
  any_back (x ∷ xs) ys e = any_back xs ys (or_false (test x) (list_any test (xs ++ ys)) e).1

  pub any_here : (xs ys : List Item) (x : Item) → test x ≡ true → list_any test (xs ++ x ∷ ys) ≡ true
  any_here [] ys x e = ap (λ b. b || list_any test ys) e
  any_here (z ∷ xs) ys x e = or_true (test z) (list_any test (xs ++ x ∷ ys)) (any_here xs ys x e)

  pub any_more : (xs ys : List Item) → list_any test xs ≡ true → list_any test (xs ++ ys) ≡ true
  any_more [] ys e = absurd (true≢false (sym e))
  any_more (x ∷ xs) ys e = by (test x) (list_any test xs) e (any_more xs ys)
    where
      by : (b c : Bool) → (b || c) ≡ true → (c ≡ true → list_any test (xs ++ ys) ≡ true) → (b || list_any test (xs ++ ys)) ≡ true
      by true c e next = refl
      by false c e next = next e

  -- the test fails at the kinds of items that an execution gives which completes
  pub record IsQuiet : Type 0 where
    pub print : (text : List ℕ) → test (item.Print text) ≡ false
    pub call : (number : ℕ) (callee method argument : List ℕ) → test (item.Call number callee method argument) ≡ false
    pub replied : (number : ℕ) (bytes : List ℕ) → test (item.Replied number bytes) ≡ false
    pub rejected : (number code : ℕ) (text : List ℕ) → test (item.Rejected number code text) ≡ false

  module _ (quiet : IsQuiet) where
    pub no_prints : (prints : List (List ℕ)) → NoneOf (print_items prints)
    no_prints [] = tt
    no_prints (text ∷ prints) = (quiet.print text, no_prints prints)

    module _ {L : Language} where
      no_calls_in : (next : ℕ) (calls : List (OutgoingCall L)) → NoneOf (call_items next calls)
      no_calls_in next [] = tt
      no_calls_in next (c ∷ calls) = (quiet.call next c.callee c.method c.argument, no_calls_in (next + 1) calls)

      pub no_answers : (owner : ℕ) (ending : Ending L) → NoneOf (answer_items owner ending)
      no_answers owner (Answers (Replies bytes)) = (quiet.replied owner bytes, tt)
      no_answers owner (Answers (Rejects code text)) = (quiet.rejected owner code text, tt)
      no_answers owner (Awaits number waiting) = tt
      no_answers owner AwaitsNothing = tt
      no_answers owner Unchanged = tt

      pub none_closed : (owner : ℕ) (items : List Item) (a : Actor L) → NoneOf items → NoneOf (close owner items a).items
      none_closed owner items a none =
          closes (λ o. NoneOf o.items) owner items a none
          (all_append (λ i. test i ≡ false) items (item.Rejected owner 5 (codes "no answer") ∷ []) none (quiet.rejected owner 5 (codes "no answer"), tt))

      pub none_completed : (owner : ℕ) (prints : List (List ℕ)) (weight : ℕ) (effects : Effects L) (a : Actor L) → NoneOf (complete owner prints weight effects a).items
      none_completed owner prints weight effects a =
          none_closed owner (print_items prints ++ (call_items (next_number a.table) effects.calls ++ answer_items owner effects.ending)) (committed owner weight effects a)
          (all_append (λ i. test i ≡ false) (print_items prints) (call_items (next_number a.table) effects.calls ++ answer_items owner effects.ending) (no_prints prints)
          (all_append (λ i. test i ≡ false) (call_items (next_number a.table) effects.calls) (answer_items owner effects.ending) (no_calls_in (next_number a.table) effects.calls)
          (no_answers owner effects.ending)))

      pub none_queried : (owner : ℕ) (prints : List (List ℕ)) (ending : Ending L) (a : Actor L) → NoneOf (close owner (print_items prints ++ answer_items owner ending) (after_query owner ending a)).items
      none_queried owner prints ending a =
          none_closed owner (print_items prints ++ answer_items owner ending) (after_query owner ending a)
          (all_append (λ i. test i ≡ false) (print_items prints) (answer_items owner ending) (no_prints prints) (no_answers owner ending))

-- The items of an event that trapped show it.
pub any_trapped : (test : Item → Bool) {L : Language} (owner : ℕ) (prints : List (List ℕ)) (cause : Word) (a : Actor L) → test (item.Trapped cause) ≡ true
    → list_any test (close owner (trap_items prints cause) a).items ≡ true
any_trapped test owner prints cause a e =
    closes (λ o. list_any test o.items ≡ true) owner (trap_items prints cause) a
    (any_here test (print_items prints) [] (item.Trapped cause) e)
    (any_more test (trap_items prints cause) (item.Rejected owner 5 (codes "no answer") ∷ []) (any_here test (print_items prints) [] (item.Trapped cause) e))
