-- The first place at which a name is used before it is defined, as more of a program is tested.
use Rattle.std.proofs.Common.{◌≡◌, ℕ, ◌+◌, ◌<◌, ◌≤◌, ◌⊎◌, inl, inr, true, false, List, [], ◌∷◌, ◌++◌, take, drop, length, get_or, Option, Some, None, refl, sym, ap, ◌∙◌, subst, IsTrue, arith, length-append}
use Rattle.std.proofs.Math.Logic.{⊎_elim}
use Rattle.std.proofs.Math.Seq.{drop-length}
use Rattle.std.proofs.lemmas.List.{take-append-drop, length-take-le, drop_at}
use Rattle.mo_syntax.specs.declared.name.Name.{Name}
use Rattle.mo_syntax.specs.declared.place.Place.{Place}
use Rattle.mo_scopes.specs.Findings.{Names, Texts, contains}
use Rattle.mo_names.specs.Order.{Step, Uses, Among, IsEarly, Misplaced}
use Rattle.mo_order.specs.Least.{StartsBy, LeastOf, OneOf}
use Rattle.mo_order.specs.Reach.{Reached}
use Rattle.mo_order.specs.Early.{LateAt, LateIn, EarlyFrom, defined, Ahead}
use Rattle.mo_order.proofs.Having.{of_true, has_one, is_one}
use Rattle.mo_order.proofs.Growing.{none, uses_late}
use Rattle.mo_order.proofs.Listed.{taken, among_none, among_one, among_left, among_right, among_cases}
use Rattle.mo_order.proofs.Leasts.{joined, same, both, unchanged}

chain : (p q r : Place) → StartsBy p q → StartsBy q r → StartsBy p r
chain p q r a b = omega arith

itself : (p : Place) → StartsBy p p
itself p = omega arith

-- ---- names that are late

pub late_here : (late : Texts) (name : Name) → contains late name.bytes ≡ true → LeastOf (LateAt late (name ∷ [])) (Some name.place)
late_here late name h = (
  (name, ([], [], refl), of_true (contains late name.bytes) h, refl),
  λ q w. let s : w.0 ≡ name = among_one name w.0 w.1 in
      let e : name.place ≡ q = ap (λ n. n.place) (sym s) ∙ w.3 in
      subst (λ z. StartsBy name.place z) e (itself name.place),
)

pub late_absent : (late : Texts) (name : Name) → contains late name.bytes ≡ false → LeastOf (LateAt late (name ∷ [])) None
late_absent late name h = λ q w.
    let s : w.0 ≡ name = among_one name w.0 w.1 in
    let t : IsTrue (contains late name.bytes) = subst (λ n. IsTrue (contains late n.bytes)) s w.2 in
    grind arith

pub late_none : (late : Texts) (least : Option Place) → LeastOf (OneOf least (LateAt late [])) least
late_none late least = unchanged StartsBy itself (LateAt late []) least (λ p w. among_none w.0 w.1)

late_left : (late : Texts) (xs ys : Names) (p : Place) → LateAt late xs p → LateAt late (xs ++ ys) p
late_left late xs ys p w = (w.0, among_left xs ys w.0 w.1, w.2, w.3)

late_right : (late : Texts) (xs ys : Names) (p : Place) → LateAt late ys p → LateAt late (xs ++ ys) p
late_right late xs ys p w = (w.0, among_right xs ys w.0 w.1, w.2, w.3)

late_cases : (late : Texts) (xs ys : Names) (p : Place) → LateAt late (xs ++ ys) p → LateAt late xs p ⊎ LateAt late ys p
late_cases late xs ys p w = ⊎_elim (λ a. inl (w.0, a, w.2, w.3)) (λ a. inr (w.0, a, w.2, w.3)) (among_cases xs ys w.0 w.1)

-- with one more name
pub late_more : (late : Texts) (names : Names) (i : ℕ) (x : Name) (least first here new : Option Place) → i < length names → x ≡ get_or names i x
    → LeastOf (OneOf least (LateAt late (take i names))) first → LeastOf (LateAt late (x ∷ [])) here → LeastOf (OneOf first (λ p. here ≡ Some p)) new
    → LeastOf (OneOf least (LateAt late (take (i + 1) names))) new
late_more late names i x least first here new l e f h n =
    subst (λ (t : Names). LeastOf (OneOf least (LateAt late t)) new) (sym (taken names i x x l e))
    (same StartsBy (λ p. OneOf least (LateAt late (take i names)) p ⊎ LateAt late (x ∷ []) p) (OneOf least (LateAt late (take i names ++ x ∷ []))) new
    (λ p s. ⊎_elim (λ o. ⊎_elim (λ q. inl q) (λ w. inr (late_left late (take i names) (x ∷ []) p w)) o) (λ w. inr (late_right late (take i names) (x ∷ []) p w)) s)
    (λ p s. ⊎_elim (λ q. inl (inl q)) (λ w. ⊎_elim (λ a. inl (inr a)) (λ b. inr b) (late_cases late (take i names) (x ∷ []) p w)) s)
    (both StartsBy chain (OneOf least (LateAt late (take i names))) (LateAt late (x ∷ [])) first here new f h n))

-- in a declaration but a `func` or `class`
pub late_evaluated : (late : Texts) (step : Step) (least first : Option Place) → step.functions ≡ [] → LeastOf (OneOf least (LateAt late step.occurs)) first
    → LeastOf (OneOf least (LateIn late step)) first
late_evaluated late step least first e h = same StartsBy (OneOf least (LateAt late step.occurs)) (OneOf least (LateIn late step)) first
    (λ p s. ⊎_elim (λ q. inl q) (λ w. inr (e, w)) s) (λ p s. ⊎_elim (λ q. inl q) (λ w. inr w.1) s) h

-- ---- a list from behind

-- before the first test
pub ahead_none : (steps : List Step) → Ahead steps (length steps) [] None
ahead_none steps = record {
  reached = rw (drop-length steps) (none steps);
  first = λ p e.
      let l : length steps ≡ length e.early.before + length (e.early.step ∷ e.early.after) = ap (λ t. length t) e.early.list ∙ length-append e.early.before (e.early.step ∷ e.early.after) in
      let b : length steps ≤ length e.early.before = e.behind in
      omega arith;
}

-- a name of the declaration that is late is early there
early_here : (steps : List Step) (i : ℕ) (step : Step) (late : Texts) → i < length steps → drop i steps ≡ step ∷ drop (i + 1) steps
    → Reached steps (defined (step ∷ drop (i + 1) steps)) late (length late) → (p : Place) → LateIn late step p → EarlyFrom steps i p
early_here steps i step late l e r p w =
    let name = w.1.0 in
    let u = r.leads name.bytes w.1.2 (name.bytes ∷ []) (Uses.occurring name.bytes (has_one name.bytes)) in
    let le : i ≤ length steps = omega arith in
    record {
      name = name;
      early = record {
        before = take i steps;
        after = drop (i + 1) steps;
        step = step;
        late = u.0;
        list = sym (take-append-drop i steps) ∙ ap (λ t. take i steps ++ t) e;
        evaluated = w.0;
        occurs = w.1.1;
        defined = u.1;
        used = u.2;
      };
      behind = (let n : length (take i steps) ≡ i = length-take-le i steps le in omega arith);
      here = w.1.3;
    }

-- and the other way round
late_there : (steps : List Step) (i : ℕ) (step : Step) (late : Texts) → drop i steps ≡ step ∷ drop (i + 1) steps
    → Reached steps (defined (step ∷ drop (i + 1) steps)) late (length late) → (p : Place) (e : EarlyFrom steps i p) → length e.early.before ≡ i → LateIn late step p
late_there steps i step late d r p e n =
    let rest : drop i steps ≡ e.early.step ∷ e.early.after = ap (λ t. drop i t) e.early.list ∙ drop_at e.early.before (e.early.step ∷ e.early.after) i n in
    let both : step ∷ drop (i + 1) steps ≡ e.early.step ∷ e.early.after = sym d ∙ rest in
    let is : e.early.step ≡ step = ap (λ t. get_or t 0 step) (sym both) in
    let known : IsTrue (contains (defined (step ∷ drop (i + 1) steps)) e.early.late) = subst (λ t. IsTrue (contains (defined t) e.early.late)) (sym both) e.early.defined in
    let w = uses_late steps (defined (step ∷ drop (i + 1) steps)) late (e.name.bytes ∷ []) e.early.late r e.early.used (r.covers e.early.late known) in (
      subst (λ s. s.functions ≡ []) is e.early.evaluated,
      (
        e.name,
        subst (λ s. Among e.name s.occurs) is e.early.occurs,
        subst (λ x. IsTrue (contains late x)) (is_one w.0 e.name.bytes w.1) w.2,
        e.here,
      ),
    )

at_or_behind : (i n : ℕ) → i ≤ n → (n ≡ i) ⊎ (i + 1 ≤ n)
at_or_behind i n le = grind arith

-- with one more declaration
pub ahead_more : (steps : List Step) (i : ℕ) (step : Step) (old new : Texts) (least first : Option Place) → i < length steps → drop i steps ≡ step ∷ drop (i + 1) steps
    → ((targets : Texts) → Reached steps targets old (length old) → Reached steps (step.defines ++ targets) new (length new))
    → LeastOf (OneOf least (LateIn new step)) first → Ahead steps (i + 1) old least → Ahead steps i new first
ahead_more steps i step old new least first l e enter h a =
    let r : Reached steps (defined (step ∷ drop (i + 1) steps)) new (length new) = enter (defined (drop (i + 1) steps)) a.reached in
    record {
      reached = rw e r;
      first = same StartsBy (λ p. EarlyFrom steps (i + 1) p ⊎ LateIn new step p) (EarlyFrom steps i) first
          (λ p s. ⊎_elim (λ w. record { name = w.name; early = w.early; behind = (let b : i + 1 ≤ length w.early.before = w.behind in omega arith); here = w.here })
          (λ w. early_here steps i step new l e r p w) s)
          (λ p w. ⊎_elim (λ n. inr (late_there steps i step new e r p w n))
          (λ n. inl (record { name = w.name; early = w.early; behind = n; here = w.here }))
          (at_or_behind i (length w.early.before) w.behind))
          (joined StartsBy chain (EarlyFrom steps (i + 1)) (LateIn new step) least first a.first h);
    }

-- ---- several lists

pub misplaced_none : LeastOf (Misplaced []) None
misplaced_none = λ p w. among_none w.steps w.listed

-- with one more list
pub misplaced_more : (lists : List (List Step)) (i : ℕ) (one : List Step) (least here new : Option Place) → i < length lists → one ≡ get_or lists i one
    → LeastOf (Misplaced (take i lists)) least → LeastOf (EarlyFrom one 0) here → LeastOf (OneOf least (λ p. here ≡ Some p)) new
    → LeastOf (Misplaced (take (i + 1) lists)) new
misplaced_more lists i one least here new l e f h n =
    subst (λ (t : List (List Step)). LeastOf (Misplaced t) new) (sym (taken lists i one one l e))
    (same StartsBy (λ p. Misplaced (take i lists) p ⊎ EarlyFrom one 0 p) (Misplaced (take i lists ++ one ∷ [])) new
    (λ p s. ⊎_elim (λ w. record { steps = w.steps; name = w.name; listed = among_left (take i lists) (one ∷ []) w.steps w.listed; early = w.early; here = w.here })
    (λ w. record { steps = one; name = w.name; listed = (take i lists, [], refl); early = w.early; here = w.here }) s)
    (λ p w. ⊎_elim (λ a. inl (record { steps = w.steps; name = w.name; listed = a; early = w.early; here = w.here }))
    (λ a. inr (record { name = w.name; early = subst (λ t. IsEarly t w.name) (among_one one w.steps a) w.early; behind = omega arith; here = w.here }))
    (among_cases (take i lists) (one ∷ []) w.steps w.listed))
    (both StartsBy chain (Misplaced (take i lists)) (EarlyFrom one 0) least here new f h n))
