-- Which functions call a name, and how the names that lead to targets grow.
use Rattle.std.proofs.Common.{◌≡◌, ℕ, Bool, true, false, List, [], ◌∷◌, ◌++◌, refl, ap, sym, ◌∙◌, subst, cond, IsTrue}
use Rattle.std.specs.List.{flat_map}
use Rattle.std.proofs.Math.Logic.{⊎_elim}
use Rattle.std.proofs.lemmas.Grind.{flat_map-append}
use Rattle.mo_name_table.specs.Places.{texts}
use Rattle.mo_scopes.specs.Findings.{Names, Texts, contains}
use Rattle.mo_names.specs.Order.{Step, Uses}
use Rattle.std.specs.Str.{bytes_eq}
use Rattle.std.proofs.lemmas.Slice.Eq.{bytes_eq-Decides}
use Rattle.mo_order.specs.Calls.{mentions, mentions_of}
use Rattle.mo_order.specs.Reach.{Leads}
use Rattle.mo_order.proofs.Having.{never, to_true, of_true, or_left, or_right, or_cases, has_left, has_right, has_cases}

-- a function of the list that calls x and is f
abbrev pub Calls : List Step → List ℕ → List ℕ → Type 0
Calls steps x f = (before : List Step) × (after : List Step) × (step : Step) × (steps ≡ before ++ step ∷ after)
    × IsTrue (contains (texts step.occurs) x) × IsTrue (contains step.functions f)

same : (x y : List ℕ) → bytes_eq x y ≡ true → x ≡ y
same x y h = (bytes_eq-Decides x y).0 h

itself : (x : List ℕ) → bytes_eq x x ≡ true
itself x = (bytes_eq-Decides x x).1 refl

-- a name that occurs, where its functions are mentioned
mention_has : (functions : Texts) (occurs : Names) (x f : List ℕ) → IsTrue (contains (flat_map (λ o. cond (bytes_eq o.bytes x) functions []) occurs) f)
    → IsTrue (contains (texts occurs) x) × IsTrue (contains functions f)
mention_has functions [] x f h = never h
mention_has functions (o ∷ os) x f h = by (bytes_eq o.bytes x) refl (λ k. mention_has functions os x f k) h where
  by : (b : Bool) → bytes_eq o.bytes x ≡ b → (IsTrue (contains (flat_map (λ o. cond (bytes_eq o.bytes x) functions []) os) f) → IsTrue (contains (texts os) x) × IsTrue (contains functions f))
      → IsTrue (contains (cond b functions [] ++ flat_map (λ o. cond (bytes_eq o.bytes x) functions []) os) f) → IsTrue (contains (texts (o ∷ os)) x) × IsTrue (contains functions f)
  by true e r h =
      let here : IsTrue (contains (texts (o ∷ os)) x) = or_left (bytes_eq x o.bytes) (contains (texts os) x) (of_true (bytes_eq x o.bytes) (ap (λ z. bytes_eq x z) (same o.bytes x e) ∙ itself x)) in
      ⊎_elim (λ q. (here, q)) (λ k. let w = r k in (or_right (bytes_eq x o.bytes) (contains (texts os) x) w.0, w.1)) (has_cases functions (flat_map (λ o. cond (bytes_eq o.bytes x) functions []) os) f h)
  by false e r h = let w = r h in (or_right (bytes_eq x o.bytes) (contains (texts os) x) w.0, w.1)

mention_all : (functions : Texts) (occurs : Names) (x f : List ℕ) → IsTrue (contains (texts occurs) x) → IsTrue (contains functions f)
    → IsTrue (contains (flat_map (λ o. cond (bytes_eq o.bytes x) functions []) occurs) f)
mention_all functions [] x f ho hf = never ho
mention_all functions (o ∷ os) x f ho hf =
    ⊎_elim
    (λ q. let e : x ≡ o.bytes = same x o.bytes (to_true (bytes_eq x o.bytes) q) in
    let t : bytes_eq o.bytes x ≡ true = ap (λ z. bytes_eq z x) (sym e) ∙ itself x in
    has_left (cond (bytes_eq o.bytes x) functions []) (flat_map (λ o. cond (bytes_eq o.bytes x) functions []) os) f (subst (λ b. IsTrue (contains (cond b functions []) f)) (sym t) hf))
    (λ k. has_right (cond (bytes_eq o.bytes x) functions []) (flat_map (λ o. cond (bytes_eq o.bytes x) functions []) os) f (mention_all functions os x f k hf))
    (or_cases (bytes_eq x o.bytes) (contains (texts os) x) ho)

pub mentions_has : (steps : List Step) (x f : List ℕ) → IsTrue (contains (mentions steps x) f) → Calls steps x f
mentions_has [] x f h = never h
mentions_has (step ∷ rest) x f h =
    ⊎_elim (λ q. let w = mention_has step.functions step.occurs x f q in ([], rest, step, refl, w.0, w.1))
    (λ k. let w = mentions_has rest x f k in (step ∷ w.0, w.1, w.2, ap (λ t. step ∷ t) w.3, w.4, w.5))
    (has_cases (mentions_of step x) (mentions rest x) f h)

pub mentions_all : (steps before after : List Step) (step : Step) (x f : List ℕ) → steps ≡ before ++ step ∷ after
    → IsTrue (contains (texts step.occurs) x) → IsTrue (contains step.functions f) → IsTrue (contains (mentions steps x) f)
mentions_all steps before after step x f e ho hf =
    rw (e, flat_map-append (λ s. mentions_of s x) before (step ∷ after))
    (has_right (mentions before x) (mentions_of step x ++ mentions after x) f (has_left (mentions_of step x) (mentions after x) f (mention_all step.functions step.occurs x f ho hf)))

-- What leads to a target in fewer leads to one in more.
pub leads_more : (steps : List Step) (targets more : Texts) (x : List ℕ) → Leads steps targets x → Leads steps (more ++ targets) x
leads_more steps targets more x h = λ names u. let w = h names u in (w.0, has_right more targets w.0 w.1, w.2)

-- A target leads to itself.
pub leads_target : (steps : List Step) (targets : Texts) (x : List ℕ) → IsTrue (contains targets x) → Leads steps targets x
leads_target steps targets x h = λ names u. (x, h, u)

-- A function leads to where a name of its body leads.
pub leads_caller : (steps : List Step) (targets : Texts) (x f : List ℕ) → Calls steps x f → Leads steps targets x → Leads steps targets f
leads_caller steps targets x f c h = λ names u. h names (Uses.through c.0 c.1 c.2 f x c.3 u c.5 c.4)
