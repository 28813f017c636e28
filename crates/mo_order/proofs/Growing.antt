-- How the names that lead to targets grow.
use Rattle.std.proofs.Common.{◌≡◌, ℕ, zero, suc, ◌+◌, ◌<◌, ◌≤◌, true, List, [], ◌∷◌, ◌++◌, take, drop, length, get_or, refl, ap, sym, ◌∙◌, subst, IsTrue, arith, Result, Ok, Err, OnOk, append_assoc, append-nil}
use Rattle.std.proofs.Math.Logic.{⊎_elim}
use Rattle.std.proofs.Math.Seq.{drop-cons, take-suc, take-length, take-append_seam}
use Rattle.std.proofs.lemmas.List.{take-append-drop, take-append-le}
use Rattle.mo_syntax.specs.declared.name.Name.{Name}
use Rattle.mo_name_table.specs.Places.{texts}
use Rattle.mo_name_table.proofs.Finding.{texts_more}
use Rattle.mo_scopes.specs.Findings.{Names, Texts, contains}
use Rattle.mo_names.specs.Order.{Step, Uses}
use Rattle.mo_order.specs.Calls.{mentions}
use Rattle.mo_order.specs.Reach.{Reached, Grown}
use Rattle.mo_order.proofs.Having.{never, of_true, has_left, has_right, has_cases, has_one, is_one}
use Rattle.mo_order.proofs.Listed.{taken}
use Rattle.mo_order.proofs.Calling.{mentions_has, mentions_all, leads_more, leads_target, leads_caller}

has_at : (late : Texts) (n : ℕ) → n < length late → IsTrue (contains late (get_or late n []))
has_at late n lt =
    let z = get_or late n [] in
    let e : take n late ++ z ∷ drop (suc n) late ≡ late = ap (λ t. take n late ++ t) (sym (drop-cons late n [] lt)) ∙ take-append-drop n late in
    subst (λ t. IsTrue (contains t z)) e (has_right (take n late) (z ∷ drop (suc n) late) z (has_left (z ∷ []) (drop (suc n) late) z (has_one z)))

take_next : (late more : Texts) (n : ℕ) → n < length late → take (n + 1) (late ++ more) ≡ take n late ++ get_or late n [] ∷ []
take_next late more n lt =
    let le : n + 1 ≤ length late = omega arith in
    let e : n + 1 ≡ suc n = omega arith in
    take-append-le (n + 1) late more le ∙ (ap (λ k. take k late) e ∙ take-suc late n [] lt)

-- ---- names that are added where they are not there yet

pub grown_none : (late : Texts) → Grown late [] late
grown_none late = record { extra = []; longer = sym (append-nil late); origin = λ x h. h; every = λ x h. never h }

pub grown_kept : (old more late : Texts) (x : List ℕ) → Grown old more late → contains late x ≡ true → Grown old (more ++ x ∷ []) late
grown_kept old more late x g h = record {
  extra = g.extra;
  longer = g.longer;
  origin = λ y k. has_left more (x ∷ []) y (g.origin y k);
  every = λ y k. ⊎_elim (λ q. g.every y q) (λ q. subst (λ z. IsTrue (contains late z)) (sym (is_one y x q)) (of_true (contains late x) h)) (has_cases more (x ∷ []) y k);
}

pub grown_more : (old more late : Texts) (x : List ℕ) → Grown old more late → Grown old (more ++ x ∷ []) (late ++ x ∷ [])
grown_more old more late x g = record {
  extra = g.extra ++ x ∷ [];
  longer = ap (λ t. t ++ x ∷ []) g.longer ∙ append_assoc old g.extra (x ∷ []);
  origin = λ y k. ⊎_elim (λ q. has_left more (x ∷ []) y (g.origin y q)) (λ q. has_right more (x ∷ []) y q) (has_cases g.extra (x ∷ []) y k);
  every = λ y k. ⊎_elim (λ q. has_left late (x ∷ []) y (g.every y q)) (λ q. has_right late (x ∷ []) y q) (has_cases more (x ∷ []) y k);
}

texts_next : (names : Names) (i : ℕ) (x : Name) → i < length names → x ≡ get_or names i x → texts (take (i + 1) names) ≡ texts (take i names) ++ x.bytes ∷ []
texts_next names i x l e = ap texts (taken names i x x l e) ∙ texts_more (take i names) x

-- one more name, which is there
pub grown_kept_at : (old late : Texts) (names : Names) (i : ℕ) (x : Name) → i < length names → x ≡ get_or names i x → Grown old (texts (take i names)) late
    → contains late x.bytes ≡ true → Grown old (texts (take (i + 1) names)) late
grown_kept_at old late names i x l e g h =
    subst (λ t. Grown old t late) (sym (texts_next names i x l e)) (grown_kept old (texts (take i names)) late x.bytes g h)

-- one more name, which is added
pub grown_more_at : (old late new : Texts) (names : Names) (i : ℕ) (x : Name) → i < length names → x ≡ get_or names i x → Grown old (texts (take i names)) late
    → new ≡ late ++ x.bytes ∷ [] → Grown old (texts (take (i + 1) names)) new
grown_more_at old late new names i x l e g n =
    subst (λ t. Grown old t new) (sym (texts_next names i x l e)) (subst (λ t. Grown old (texts (take i names) ++ x.bytes ∷ []) t) (sym n) (grown_more old (texts (take i names)) late x.bytes g))

-- with what calls one more name
pub grow : (steps : List Step) (targets late new : Texts) (n : ℕ) → n < length late → Grown late (mentions steps (get_or late n [])) new → Reached steps targets late n
    → Reached steps targets new (n + 1)
grow steps targets late new n lt g r =
    let z = get_or late n [] in
    let more = mentions steps z in
    let to_new : (x : List ℕ) → IsTrue (contains late x) → IsTrue (contains new x) = λ x h. subst (λ t. IsTrue (contains t x)) (sym g.longer) (has_left late g.extra x h) in
    record {
      covers = λ x h. to_new x (r.covers x h);
      leads = λ x h. ⊎_elim (λ q. r.leads x q) (λ k. leads_caller steps targets z x (mentions_has steps z x (g.origin x k)) (r.leads z (has_at late n lt)))
          (has_cases late g.extra x (subst (λ t. IsTrue (contains t x)) g.longer h));
      closed = λ before after step x f e hx ho hf.
          ⊎_elim (λ q. to_new f (r.closed before after step x f e q ho hf))
          (λ q. g.every f (mentions_all steps before after step z f e (subst (λ t. IsTrue (contains (texts step.occurs) t)) (is_one x z q) ho) hf))
          (has_cases (take n late) (z ∷ []) x (subst (λ t. IsTrue (contains t x)) (ap (λ t. take (n + 1) t) g.longer ∙ take_next late g.extra n lt) hx));
    }

pub grow_all : (steps : List Step) (start late new : Texts) (from n : ℕ) → n < length late → Grown late (mentions steps (get_or late n [])) new
    → ((targets : Texts) → Reached steps targets start from → Reached steps targets late n)
    → (targets : Texts) → Reached steps targets start from → Reached steps targets new (n + 1)
grow_all steps start late new from n lt g h targets r = grow steps targets late new n lt g (h targets r)

take_all : (n : ℕ) (xs : Texts) → length xs ≤ n → take n xs ≡ xs
take_all zero [] le = refl
take_all zero (x ∷ xs) le = absurd (omega arith)
take_all (suc n) [] le = refl
take_all (suc n) (x ∷ xs) le = ap (λ t. x ∷ t) (take_all n xs (omega arith))

-- when no name is left
pub whole : (steps : List Step) (targets late : Texts) (n : ℕ) → length late ≤ n → Reached steps targets late n → Reached steps targets late (length late)
whole steps targets late n le r = record {
  covers = r.covers;
  leads = r.leads;
  closed = λ before after step x f e hx ho hf.
      let all : take (length late) late ≡ take n late = take-length late ∙ sym (take_all n late le) in
      r.closed before after step x f e (subst (λ t. IsTrue (contains t x)) all hx) ho hf;
}

-- with what one more declaration defines
pub define : (steps : List Step) (targets late names : Texts) → Reached steps targets late (length late) → Reached steps (names ++ targets) (late ++ names) (length late)
define steps targets late names r = record {
  covers = λ x h. ⊎_elim (λ a. has_right late names x a) (λ b. has_left late names x (r.covers x b)) (has_cases names targets x h);
  leads = λ x h. ⊎_elim (λ a. leads_more steps targets names x (r.leads x a)) (λ b. leads_target steps (names ++ targets) x (has_left names targets x b)) (has_cases late names x h);
  closed = λ before after step x f e hx ho hf.
      let all : take (length late) (late ++ names) ≡ take (length late) late = take-append_seam late names ∙ sym (take-length late) in
      has_left late names f (r.closed before after step x f e (subst (λ t. IsTrue (contains t x)) all hx) ho hf);
}

-- nothing leads to no target
pub none : (steps : List Step) → Reached steps [] [] 0
none steps = record {
  covers = λ x h. h;
  leads = λ x h. never h;
  closed = λ before after step x f e hx ho hf. never hx;
}

-- where what is used leads to a target, a name of these does
pub uses_late : (steps : List Step) (targets late names : Texts) (y : List ℕ) → Reached steps targets late (length late) → Uses steps names y → IsTrue (contains late y)
    → (x : List ℕ) × IsTrue (contains names x) × IsTrue (contains late x)
uses_late steps targets late names y r (Uses.occurring x h) hl = (x, h, hl)
uses_late steps targets late names y r (Uses.through before after step f x e u hf ho) hl =
    uses_late steps targets late names f r u (r.closed before after step x f e (subst (λ t. IsTrue (contains t x)) (sym (take-length late)) hl) ho hf)

-- what a declaration adds, when no name is left
pub entered : {A E : Type 0} (r : Result A E) (steps : List Step) (late mid new names : Texts) (from : ℕ) → from ≡ length late → mid ≡ late ++ names
    → ((targets : Texts) → OnOk r (Reached steps targets mid from → Reached steps targets new (length new)))
    → (targets : Texts) → OnOk r (Reached steps targets late (length late) → Reached steps (names ++ targets) new (length new))
entered (Ok x) steps late mid new names from ef em h targets = λ r. h (names ++ targets) (rw (em, ef) (define steps targets late names r))
entered (Err e) steps late mid new names from ef em h targets = tt
