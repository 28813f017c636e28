-- The lines of the switches that miss a value, switch by switch.
use Rattle.std.proofs.Common.{◌≡◌, ℕ, ◌+◌, ◌<◌, ◌≤◌, List, [], ◌∷◌, ◌++◌, length, take, get_or, Result, Ok, Err, IfOk, sym, ap, subst, ◌∙◌}
use Rattle.std.proofs.lemmas.List.{take_more}
use Rattle.mo_syntax.specs.declared.token.Token.{Token}
use Rattle.mo_syntax.specs.Lexed.{Lexed}
use Rattle.typed_tree.specs.declared.program.Program.{Program}
use Rattle.typed_tree.specs.WellTyped.{WellTyped}
use Rattle.switch_coverage.specs.declared.uncovered.Uncovered.{Uncovered}
use Rattle.switch_coverage.specs.Uncovered.{AreUncovered}
use Rattle.mo_front.specs.Fronts.{Accepted}
use Rattle.mo_front.specs.Places.{token_start}
use Rattle.mo_command.specs.Uncovered.{AreLines, AreShown, IsUncoveredLine}

lines_more : (source : List ℕ) (tokens : List Token) (us : List Uncovered) (u : Uncovered) (ls : List (List ℕ)) (l : List ℕ) → AreLines source tokens us ls → IsUncoveredLine source (token_start tokens u.token) l
    → AreLines source tokens (us ++ u ∷ []) (ls ++ l ∷ [])
lines_more source tokens [] u [] l h k = (k, tt)
lines_more source tokens [] u (m ∷ ls) l h k = absurd h
lines_more source tokens (v ∷ us) u [] l h k = absurd h
lines_more source tokens (v ∷ us) u (m ∷ ls) l h k = (h.0, lines_more source tokens us u ls l h.1 k)

-- the line of the next switch
pub next_line : (source : List ℕ) (tokens : List Token) (found : List Uncovered) (i : ℕ) (u : Uncovered) (ls : List (List ℕ)) (l : List ℕ) → i < length found → u ≡ get_or found i u → AreLines source tokens (take i found) ls
    → IsUncoveredLine source (token_start tokens u.token) l → AreLines source tokens (take (i + 1) found) (ls ++ l ∷ [])
next_line source tokens found i u ls l lt e h k =
    subst (λ us. AreLines source tokens us (ls ++ l ∷ [])) (sym (take_more found i u lt ∙ ap (λ v. take i found ++ v ∷ []) (sym e))) (lines_more source tokens (take i found) u ls l h k)

pub are_shown : (source : List ℕ) (made : Program) (tokens : List Token) (found : List Uncovered) (lines : List (List ℕ)) → Accepted source made → WellTyped made → length source ≤ 1048576 → Lexed source tokens → AreUncovered made found
    → AreLines source tokens found lines → AreShown source lines
are_shown source made tokens found lines accepted typed short lexed uncovered are_lines = record {
  made = made;
  accepted = accepted;
  typed = typed;
  tokens = tokens;
  lexed = record { short = short; lexed = lexed };
  found = found;
  uncovered = uncovered;
  are_lines = are_lines;
}

-- what is given has another fact as well
pub ok_then : {A E : Type 0} (r : Result A E) (P Q : A → Type 0) → IfOk r P → ((a : A) → P a → Q a) → IfOk r Q
ok_then (Ok a) P Q h f = f a h
ok_then (Err e) P Q h f = tt
