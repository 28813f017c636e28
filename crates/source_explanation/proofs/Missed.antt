-- The texts of the switches that miss a value, switch by switch.
use Rattle.std.proofs.Common.{◌≡◌, ℕ, ◌+◌, ◌<◌, ◌≤◌, List, [], ◌∷◌, ◌++◌, Bool, length, take, get_or, Result, Ok, Err, IfOk, refl, sym, ap, subst, ◌∙◌, codes}
use Rattle.std.proofs.lemmas.List.{append-nil, append_assoc, take_more}
use Rattle.mo_types.specs.Graph.{Slot}
use Rattle.mo_syntax.specs.declared.token.Token.{Token}
use Rattle.mo_syntax.specs.Lexed.{Lexed}
use Rattle.typed_tree.specs.declared.program.Program.{Program}
use Rattle.pattern_coverage.specs.Cover.{Tells}
use Rattle.pattern_coverage.specs.Followed.{value_head}
use Rattle.pattern_coverage.specs.Inhabited.{in_table}
use Rattle.mo_coverage.specs.Shapes.{known}
use Rattle.shape_patterns.specs.Stands.{shape_pattern}
use Rattle.shape_patterns.specs.Writes.{IsCase}
use Rattle.switch_coverage.specs.declared.uncovered.Uncovered.{Uncovered}
use Rattle.switch_coverage.specs.Uncovered.{AreUncovered}
use Rattle.mo_front.specs.Places.{token_start}
use Rattle.source_explanation.specs.Shown.{IsShown}
use Rattle.source_explanation.specs.Misses.{AreMissed, AreMissedTexts, IsMissedText}

module _ (source : List ℕ) (tokens : List Token) (types : List Slot) (table : List Bool) where
  one_more : (us : List Uncovered) (u : Uncovered) (made text : List ℕ) → AreMissedTexts source tokens types table us made → IsMissedText source tokens types table u text
      → AreMissedTexts source tokens types table (us ++ u ∷ []) (made ++ text)
  one_more [] u made text h k = (text, [], k, refl, ap (λ m. m ++ text) h ∙ sym (append-nil text))
  one_more (v ∷ us) u made text h k = (h.0, h.1 ++ text, h.2, one_more us u h.1 text h.3 k, ap (λ m. m ++ text) h.4 ∙ append_assoc h.0 h.1 text)

  -- that of the next switch
  pub next_text : (found : List Uncovered) (i : ℕ) (u : Uncovered) (made text : List ℕ) → i < length found → u ≡ get_or found i u → AreMissedTexts source tokens types table (take i found) made → IsMissedText source tokens types table u text
      → AreMissedTexts source tokens types table (take (i + 1) found) (made ++ text)
  next_text found i u made text lt e h k =
      subst (λ us. AreMissedTexts source tokens types table us (made ++ text)) (sym (take_more found i u lt ∙ ap (λ v. take i found ++ v ∷ []) (sym e))) (one_more (take i found) u made text h k)

-- that of a switch, by what its parts came to
pub is_missed_text : (source : List ℕ) (tokens : List Token) (types : List Slot) (table : List Bool) (u : Uncovered) (case lacks : List ℕ) (place : ℕ) (text : List ℕ)
    → IsCase case (shape_pattern (value_head types) (in_table table) (known u.missed) u.of_type) → place ≡ token_start tokens u.token → lacks ≡ codes "A case that it lacks:" ++ case
    → IsShown source place (codes "The switch misses values.") lacks text → IsMissedText source tokens types table u text
is_missed_text source tokens types table u case lacks place text is at l said =
    (case, is, subst (λ p. IsShown source p (codes "The switch misses values.") (codes "A case that it lacks:" ++ case) text) at (subst (λ t. IsShown source place (codes "The switch misses values.") t text) l said))

-- those of a program, by what their parts came to
pub are_missed : (source : List ℕ) (made : Program) (tokens ts : List Token) (table has : List Bool) (found us : List Uncovered) (text : List ℕ) → length source ≤ 1048576 → Lexed source tokens → AreUncovered made found
    → Tells (value_head made.types) (in_table table) → ts ≡ tokens → has ≡ table → us ≡ found → AreMissedTexts source ts made.types has us text → AreMissed source made text
are_missed source made tokens ts table has found us text short lexed uncovered tells tokens_are table_is found_are are = record {
  tokens = tokens;
  lexed = record { short = short; lexed = lexed };
  found = found;
  uncovered = uncovered;
  table = table;
  tells = tells;
  are =
      subst (λ t. AreMissedTexts source t made.types table found text) tokens_are
      (subst (λ b. AreMissedTexts source ts made.types b found text) table_is (subst (λ v. AreMissedTexts source ts made.types has v text) found_are are));
}

-- what is given has another fact as well
pub ok_then : {A E : Type 0} (r : Result A E) (P Q : A → Type 0) → IfOk r P → ((a : A) → P a → Q a) → IfOk r Q
ok_then (Ok a) P Q h f = f a h
ok_then (Err e) P Q h f = tt
