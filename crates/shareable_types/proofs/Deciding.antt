-- Truth values of lists, one item after another.
use Rattle.std.proofs.lemmas.List.{take_more}
use Rattle.std.proofs.Common.{◌≡◌, ℕ, zero, suc, ◌+◌, ◌<◌, ◌≤◌, ◌==◌, get_or, Bool, true, false, ◌&&◌, not, List, [], ◌∷◌, ◌++◌, length, map, take, refl, sym, ap, ◌∙◌, subst, arith}
use Rattle.std.specs.Cmp.{unsigned_Decides}
use Rattle.mo_types.specs.declared.node.Field.{Field}
use Rattle.mo_types.specs.Sub.{Each}
use Rattle.type_terms.specs.declared.form.TermId.{TermId}
use Rattle.shareable_types.specs.declared.needs.Needs.{Needs}
use Rattle.shareable_types.specs.Sharing.{all, allowed, every}
use Rattle.shareable_types.specs.Parts.{constant_fields}

pub and_assoc : (a b c : Bool) → ((a && b) && c) ≡ (a && (b && c))
and_assoc true b c = refl
and_assoc false b c = refl

pub and_true : (b : Bool) → (b && true) ≡ b
and_true true = refl
and_true false = refl

pub and_false : (b : Bool) → (b && false) ≡ false
and_false true = refl
and_false false = refl

none_all : (ps : List ℕ) → (length ps == 0) ≡ all (λ _. false) ps
none_all [] = refl
none_all (p ∷ ps) = by (length (p ∷ ps) == 0) refl where
  by : (b : Bool) → (length (p ∷ ps) == 0) ≡ b → (length (p ∷ ps) == 0) ≡ false
  by false e = e
  by true e = let z : suc (length ps) ≡ 0 = (unsigned_Decides (length (p ∷ ps)) 0).0 e in absurd (omega (arith, z))

-- where nothing makes it so, or else
pub nothing_is : (n : Needs) (b : Bool) → n.never ≡ false → b ≡ (length n.parameters == 0) → b ≡ allowed (λ _. false) n
nothing_is n b e h = h ∙ (none_all n.parameters ∙ ap (λ c. not c && all (λ _. false) n.parameters) (sym e))

-- ---- one item more

pub take_next : {A : Type 0} (xs : List A) (i : ℕ) (x : A) → i < length xs → x ≡ get_or xs i x → take (i + 1) xs ≡ take i xs ++ x ∷ []
take_next xs i x b e = take_more xs i x b ∙ ap (λ y. take i xs ++ y ∷ []) (sym e)

pub take_all : {A : Type 0} (xs : List A) (i : ℕ) → length xs ≤ i → take i xs ≡ xs
take_all [] zero h = refl
take_all [] (suc i) h = refl
take_all (x ∷ xs) zero h = absurd (omega arith)
take_all (x ∷ xs) (suc i) h = ap (λ ys. x ∷ ys) (take_all xs i (omega arith))

pub each_at : {A : Type 0} (P : A → Type 0) (xs : List A) (i : ℕ) (x : A) → Each P xs → i < length xs → x ≡ get_or xs i x → P x
each_at P [] i x h b e = absurd (omega arith)
each_at P (y ∷ xs) zero x h b e = subst P (sym e) h.0
each_at P (y ∷ xs) (suc i) x h b e = each_at P xs i x h.1 (omega arith) e

module _ {A : Type 0} (f : A → Bool) where
  every_more : (xs : List A) (x : A) → every (map f (xs ++ x ∷ [])) ≡ (every (map f xs) && f x)
  every_more [] x = and_true (f x)
  every_more (y ∷ xs) x = ap (λ b. f y && b) (every_more xs x) ∙ sym (and_assoc (f y) (every (map f xs)) (f x))

  pub every_next : (xs : List A) (i : ℕ) (x : A) (a b c : Bool) → take (i + 1) xs ≡ take i xs ++ x ∷ [] → b ≡ (a && every (map f (take i xs))) → c ≡ (b && f x) → c ≡ (a && every (map f (take (i + 1) xs)))
  every_next xs i x a b c t h k =
      k ∙ (ap (λ z. z && f x) h ∙ (and_assoc a (every (map f (take i xs))) (f x)
      ∙ ap (λ z. a && z) (sym (ap (λ ys. every (map f ys)) t ∙ every_more (take i xs) x))))

all_more : (x : ℕ → Bool) (ps : List ℕ) (p : ℕ) → all x (ps ++ p ∷ []) ≡ (all x ps && x p)
all_more x [] p = and_true (x p)
all_more x (q ∷ ps) p = ap (λ b. x q && b) (all_more x ps p) ∙ sym (and_assoc (x q) (all x ps) (x p))

pub all_next : (x : ℕ → Bool) (ps : List ℕ) (i p : ℕ) (a b c : Bool) → i < length ps → p ≡ get_or ps i p → b ≡ (a && all x (take i ps)) → c ≡ (b && x p) → c ≡ (a && all x (take (i + 1) ps))
all_next x ps i p a b c l e h k =
    k ∙ (ap (λ z. z && x p) h ∙ (and_assoc a (all x (take i ps)) (x p)
    ∙ ap (λ z. a && z) (sym (ap (all x) (take_next ps i p l e) ∙ all_more x (take i ps) p))))

-- ---- fields

constant_more : (fs : List (Field TermId)) (f : Field TermId) → constant_fields (fs ++ f ∷ []) ≡ (constant_fields fs && not f.mutable)
constant_more [] f = and_true (not f.mutable)
constant_more (g ∷ fs) f = ap (λ b. not g.mutable && b) (constant_more fs f) ∙ sym (and_assoc (not g.mutable) (constant_fields fs) (not f.mutable))

pub constant_next : (fs : List (Field TermId)) (i : ℕ) (f : Field TermId) → i < length fs → f ≡ get_or fs i f → constant_fields (take i fs) ≡ true → f.mutable ≡ false → constant_fields (take (i + 1) fs) ≡ true
constant_next fs i f l e h k =
    ap constant_fields (take_next fs i f l e) ∙ (constant_more (take i fs) f ∙ (ap (λ b. b && not f.mutable) h ∙ ap not k))

pub variable_at : (fs : List (Field TermId)) (i : ℕ) (f : Field TermId) → i < length fs → f ≡ get_or fs i f → f.mutable ≡ true → false ≡ constant_fields fs
variable_at [] i f l e k = absurd (omega arith)
variable_at (g ∷ fs) zero f l e k = ap (λ b. not b && constant_fields fs) (sym (sym (ap (λ (h : Field TermId). h.mutable) e) ∙ k))
variable_at (g ∷ fs) (suc i) f l e k = sym (and_false (not g.mutable)) ∙ ap (λ b. not g.mutable && b) (variable_at fs i f (omega arith) e k)

pub fields_at : (P : TermId → Type 0) (fs : List (Field TermId)) (i : ℕ) (f : Field TermId) → Each P (map (λ g. g.part) fs) → i < length fs → f ≡ get_or fs i f → P f.part
fields_at P [] i f h l e = absurd (omega arith)
fields_at P (g ∷ fs) zero f h l e = subst (λ (k : Field TermId). P k.part) (sym e) h.0
fields_at P (g ∷ fs) (suc i) f h l e = fields_at P fs i f h.1 (omega arith) e
