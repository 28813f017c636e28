-- The longest front of a text whose bytes pass a test.
use Rattle.std.proofs.Common.{◌≡◌, ℕ, suc, ◌+◌, Bool, true, false, cond, List, [], ◌∷◌, ◌++◌, length, take, drop, refl, ap, ◌∙◌, arith}
use Rattle.std.specs.List.{prefix_len, list_all}
use Rattle.mo_syntax.specs.Characters.{begins}
use Rattle.mo_lexer.proofs.Tools.{and_true, and_of, take_one, drop_one}

-- the front passes, and what follows does not
pub record Runs (p : ℕ → Bool) (front rest : List ℕ) : Type 0 where
  pub passes : list_all p front ≡ true
  pub stops : begins p rest ≡ false

runs_step : (p : ℕ → Bool) (x : ℕ) (text : List ℕ) (n : ℕ) (b : Bool) → p x ≡ b → Runs p (take n text) (drop n text) →
    Runs p (take (cond b (1 + n) 0) (x ∷ text)) (drop (cond b (1 + n) 0) (x ∷ text))
runs_step p x text n true is r = record {
  passes = ap (list_all p) (take_one n x text) ∙ and_of (p x) (list_all p (take n text)) is r.passes;
  stops = ap (begins p) (drop_one n x text) ∙ r.stops;
}
runs_step p x text n false is r = record { passes = refl; stops = is }

pub run_found : (p : ℕ → Bool) (text : List ℕ) → Runs p (take (prefix_len p text) text) (drop (prefix_len p text) text)
run_found p [] = record { passes = refl; stops = refl }
run_found p (x ∷ text) = runs_step p x text (prefix_len p text) (p x) refl (run_found p text)

stops_zero : (p : ℕ → Bool) (rest : List ℕ) → begins p rest ≡ false → prefix_len p rest ≡ 0
stops_zero p [] h = refl
stops_zero p (x ∷ rest) h = ap (λ b. cond b (1 + prefix_len p rest) 0) h

pub run_only : (p : ℕ → Bool) (front rest : List ℕ) → Runs p front rest → prefix_len p (front ++ rest) ≡ length front
run_only p [] rest r = stops_zero p rest r.stops
run_only p (x ∷ front) rest r =
    let both = and_true (p x) (list_all p front) r.passes in
    let more : prefix_len p (front ++ rest) ≡ length front = run_only p front rest (record { passes = both.1; stops = r.stops }) in
    let here : prefix_len p (x ∷ front ++ rest) ≡ 1 + prefix_len p (front ++ rest) = ap (λ b. cond b (1 + prefix_len p (front ++ rest)) 0) both.0 in
    let last : 1 + prefix_len p (front ++ rest) ≡ suc (length front) = omega arith in
    here ∙ last
