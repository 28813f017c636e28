-- Where groups make groups before them alone, the uses that are found are all that the functions of each group see.
use Rattle.std.proofs.Common.{◌≡◌, ℕ, zero, suc, ◌+◌, ◌<◌, refl, sym, ap, ◌∙◌, subst, List, [], ◌∷◌, ◌++◌, length, Some, None, arith as arithmetic}
use Rattle.std.specs.Prelude.{slice_get}
use Rattle.core_ir.specs.Choices.{nth}
use Rattle.core_ir.specs.Programs.{Group}
use Rattle.core_ir.specs.Worlds.{Context}
use Rattle.core_ir.specs.Code.{Code, Stop, Let, If, Match, Loop, Label, Branch, Leave, Pass, Make, Call, Tabulate, Send, Wait, Raise, Return, Body, CodeProgram}
use Rattle.core_laws.specs.Uses.{uses_bodies, needs_of}
use Rattle.core_laws.specs.Earlier.{Earlier, EarlierSegments, EarlierBodies, EarlierGroups}
use Rattle.core_laws.proofs.Seen.{SeesBodies}
use Rattle.core_laws.proofs.FoundUses.{Known, KnownSegments, KnownBodies, bodies_in}
use Rattle.core_laws.proofs.ConvertedSteps.{Good}

module _ (final needs : List (List ℕ)) (n : ℕ) (agree : (k : ℕ) → k < n → nth [] final k ≡ nth [] needs k) where
  known : (c : Code) → Earlier n c → Known final needs c
  known Stop h = tt
  known (Let t p xs c) h = known c h
  known (If p xs y z c) h = (known y (h.0), known z (h.1), known c (h.2))
  known (Match t k x y z c) h = (known y (h.0), known z (h.1), known c (h.2))
  known (Loop b c) h = (known b (h.0), known c (h.1))
  known (Label b c) h = (known b (h.0), known c (h.1))
  known (Branch l) h = tt
  known (Leave j) h = tt
  known (Pass t x j) h = tt
  known (Make t seen k c) h = (agree k (h.0), known c (h.1))
  known (Call t f xs c) h = known c h
  known (Tabulate t m f c) h = known c h
  known (Send t s f xs k c) h = known c h
  known (Wait t x k j) h = tt
  known (Raise x k) h = tt
  known (Return x) h = tt

  known_segments : (cs : List Code) → EarlierSegments n cs → KnownSegments final needs cs
  known_segments [] h = tt
  known_segments (c ∷ cs) h = (known c (h.0), known_segments cs (h.1))

  known_bodies : (bs : List Body) → EarlierBodies n bs → KnownBodies final needs bs
  known_bodies [] h = tt
  known_bodies (b ∷ bs) h = (known_segments b.segments (h.0), known_bodies bs (h.1))

-- ---- what is found of a group stays

nth_before : (xs : List (List ℕ)) (y : List ℕ) (k : ℕ) → k < length xs → nth [] (xs ++ y ∷ []) k ≡ nth [] xs k
nth_before [] y k h = absurd (omega (arithmetic, h))
nth_before (x ∷ xs) y zero h = refl
nth_before (x ∷ xs) y (suc k) h = nth_before xs y k (omega (arithmetic, h))

nth_last : (xs : List (List ℕ)) (y : List ℕ) → nth [] (xs ++ y ∷ []) (length xs) ≡ y
nth_last [] y = refl
nth_last (x ∷ xs) y = nth_last xs y

longer : (xs : List (List ℕ)) (y : List ℕ) → length (xs ++ y ∷ []) ≡ suc (length xs)
longer [] y = refl
longer (x ∷ xs) y = ap suc (longer xs y)

needs_stay : (gs : List (Group Body)) (needs : List (List ℕ)) (k : ℕ) → k < length needs → nth [] (needs_of needs gs) k ≡ nth [] needs k
needs_stay [] needs k h = refl
needs_stay (g ∷ gs) needs k h =
    needs_stay gs (needs ++ uses_bodies needs g.bodies [] ∷ []) k (subst (λ n. k < n) (sym (longer needs (uses_bodies needs g.bodies []))) (omega (arithmetic, h)))
    ∙ nth_before needs (uses_bodies needs g.bodies []) k h

pub all_suffice : (gs : List (Group Body)) (needs : List (List ℕ)) (n : ℕ) → length needs ≡ n → EarlierGroups n gs → (k : ℕ) (g : Group Body) → slice_get gs k ≡ Some g
    → SeesBodies (needs_of needs gs) (nth [] (needs_of needs gs) (n + k)) g.bodies
all_suffice [] needs n e h k g i = absurd (let x : None ≡ Some g = i in cc)
all_suffice (g ∷ gs) needs n e h zero g' i =
    let used = uses_bodies needs g.bodies [] in
    let final = needs_of needs (g ∷ gs) in
    let at : nth [] final (length needs) ≡ used =
    needs_stay gs (needs ++ used ∷ []) (length needs) (subst (λ n. length needs < n) (sym (longer needs used)) (omega arithmetic)) ∙ nth_last needs used in
    let here : nth [] final (n + 0) ≡ used = let z : n + 0 ≡ length needs = omega (arithmetic, e) in ap (nth [] final) z ∙ at in
    let known_here = known_bodies final needs n (λ k l. needs_stay (g ∷ gs) needs k (subst (λ n. k < n) (sym e) l)) g.bodies (h.0) in
    subst (λ g. SeesBodies final (nth [] final (n + 0)) g.bodies) (let x : g ≡ g' = cc in x)
    (subst (λ u. SeesBodies final u g.bodies) (sym here) (bodies_in final needs used g.bodies [] known_here (λ x i. i)))
all_suffice (g ∷ gs) needs n e h (suc k) g' i =
    subst (λ x. SeesBodies (needs_of needs (g ∷ gs)) (nth [] (needs_of needs (g ∷ gs)) x) g'.bodies) (let z : suc n + k ≡ n + suc k = omega arithmetic in z)
    (all_suffice gs (needs ++ uses_bodies needs g.bodies [] ∷ []) (suc n) (longer needs (uses_bodies needs g.bodies []) ∙ ap suc e) (h.1) k g' i)

pub uses_suffice : (p : CodeProgram) (context : Context) → EarlierGroups 0 p.groups → Good (needs_of [] p.groups) p context
uses_suffice p context h k g i =
    subst (λ x. SeesBodies (needs_of [] p.groups) (nth [] (needs_of [] p.groups) x) g.bodies) (let z : 0 + k ≡ k = omega arithmetic in z) (all_suffice p.groups [] 0 refl h k g i)
