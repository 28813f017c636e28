-- The names that a list binds, one declaration after another.
use Rattle.std.proofs.Common.{◌≡◌, ℕ, List, [], ◌∷◌, ◌++◌, Ok, Err, map, refl, sym, ap, ◌∙◌, subst, append_assoc, append-nil}
use Rattle.std.specs.Prelude.{Result}
use Rattle.type_terms.specs.declared.form.Form.{Form}
use Rattle.typing_rules.specs.AbstractSyntax as p
use Rattle.typing_rules.specs.Contexts.{Scope}
use Rattle.typing_rules.specs.Judgements.{Judgement, Gives, Part}
use Rattle.typing_rules.specs.Signatures.{SignatureOf, Signatures}
use Rattle.typing_rules.specs.TypeScopes.{TypeScope}
use Rattle.type_definitions.specs.Definitions.{Listed, rules_in}
use Rattle.met_types.specs.States.{State}
use Rattle.definition_rules.proofs.Promoting.{same_itself}
use Rattle.shareable_types.specs.declared.sharing.Sharing.{Sharing}
use Rattle.abstract_tree.specs.declared.declarations.Declaration.{Declaration}
use Rattle.abstract_tree.specs.declared.declarations.DeclarationForm.{DeclarationForm}
use Rattle.abstract_tree.specs.TreeView.{DeclarationView, declarations, plain_declaration, plain_declaration_form}
use Rattle.abstract_tree.proofs.TreeViews.{declaration_is}
use Rattle.type_judgements.specs.declared.refusal.Refusal.{Refusal}
use Rattle.proper_types.specs.Passing.{Ready}
use Rattle.proper_types.specs.Rules.{Rule}
use Rattle.proper_types.proofs.Judging.{given}
use Rattle.proper_types.proofs.Turns.{part_assoc}
use Rattle.typed_patterns.specs.Binding.{Binds, Names, Pushes, bind}
use Rattle.typed_patterns.proofs.Joining.{Joins, binds_none, both_bind, first_pushes, pushes_as, second_refused, unpushed}
use Rattle.typed_patterns.proofs.Standing.{behind_alike}
use Rattle.signatures.specs.Naming.{no_more, signature_of}
use Rattle.signatures.proofs.Gathering.{part_gives}
use Rattle.list_signatures.specs.Listing.{signatures_of}

-- ---- both of two, and of three

abbrev pub Both : Type 0
Both = Judgement (Scope × Unit {0})

abbrev rest : Scope × Unit {0} → Scope × Unit {0} → Both
rest b c = Gives (c.0 ++ b.0, c.1)

-- the second after the first, whose names stand behind
abbrev Join : Both → Both → Both
Join j k = Part j (λ b. Part k (rest b))

joins_assoc : (i j k : Both) → Join (Join i j) k ≡ Join i (Join j k)
joins_assoc i j k =
    part_assoc i (λ b. Part j (rest b)) (λ d. Part k (rest d))
    ∙ behind_alike i (λ b. Part (Part j (rest b)) (λ d. Part k (rest d))) (λ b. Part (Join j k) (rest b))
    (λ b.
    part_assoc j (rest b) (λ d. Part k (rest d))
    ∙ (behind_alike j (λ c. Part k (rest (c.0 ++ b.0, c.1))) (λ c. Part (Part k (rest c)) (rest b))
    (λ c.
    behind_alike k (λ e. Gives (e.0 ++ (c.0 ++ b.0), e.1)) (λ e. Gives ((e.0 ++ c.0) ++ b.0, e.1)) (λ e. ap (λ (n : Scope). Gives (n, e.1)) (sym (append_assoc e.0 c.0 b.0)))
    ∙ sym (part_assoc k (rest c) (rest b)))
    ∙ sym (part_assoc j (λ c. Part k (rest c)) (rest b))))

none_behind : (j : Both) → Part j (λ c. Gives (c.0 ++ [], c.1)) ≡ j
none_behind j = behind_alike j (λ c. Gives (c.0 ++ [], c.1)) (λ c. Gives c) (λ c. ap (λ (n : Scope). Gives (n, c.1)) (append-nil c.0)) ∙ part_gives j

module _ (s : TypeScope) where
  -- ---- one declaration

  module _ {M : Type 0} (f : DeclarationForm ℕ) (w : p.Declaration ℕ) (e : plain_declaration_form f ≡ w) where
    pub by_form : (old new : State) (c : Sharing) (before after : Names) (show : M → List Form → Unit {0}) (r : Result M Refusal) → Pushes (signature_of s w) old new c before after show r
        → Pushes (signature_of s (plain_declaration_form f)) old new c before after show r
    by_form old new c before after show r h = subst (λ (d : p.Declaration ℕ). Pushes (signature_of s d) old new c before after show r) (sym e) h

  pub binds_nothing : (f : DeclarationForm ℕ) (w : p.Declaration ℕ) → plain_declaration_form f ≡ w → (st : State) (c : Sharing) (names : Names) → ((l : Listed) (later : List Form) → Gives ([], tt) ≡ signature_of s w l later) → Ready st c
      → Binds (signature_of s (plain_declaration_form f)) st st c names names (no_more tt)
  binds_nothing f w e st c names i ready = by_form f w e st st c names names no_more (Ok tt)
      (binds_none (signature_of s w) st st c names (no_more tt) (given (signature_of s w st.listed) st st c (bind [] (no_more tt)) (same_itself st ready.kept) ready (λ later l. i st.listed later)))

  -- ---- several

  abbrev pub one : Declaration ℕ → Rule (Scope × Unit {0})
  one d = signature_of s (plain_declaration_form d.form)

  abbrev pub all : List (Declaration ℕ) → Rule (Scope × Unit {0})
  all ds = signatures_of s (declarations (map plain_declaration ds))

  abbrev second : Unit {0} → Unit {0} → Unit {0}
  second u w = w

  one_then : (d : Declaration ℕ) (ds : List (Declaration ℕ)) (l : Listed) (later : List Form) → Join (one d l later) (all ds l later) ≡ all (d ∷ ds) l later
  one_then d ds l later =
      part_assoc first named (λ b. Part (all ds l later) (rest b))
      ∙ (behind_alike first (λ n. Part (all ds l later) (rest (n, tt))) (λ n. Part (Part others (λ m. Gives (m ++ n))) named)
      (λ n. part_assoc others named (rest (n, tt)) ∙ sym (part_assoc others (λ m. Gives (m ++ n)) named))
      ∙ (sym (part_assoc first (λ n. Part others (λ m. Gives (m ++ n))) named)
      ∙ sym (ap (λ (f : DeclarationView ℕ). Part (Signatures (rules_in later l) s (f (declarations (map plain_declaration ds)))) named) (declaration_is d))))
    where
      first : Judgement Scope
      first = SignatureOf (rules_in later l) s (plain_declaration_form d.form)

      others : Judgement Scope
      others = Signatures (rules_in later l) s (declarations (map plain_declaration ds))

      named : Scope → Both
      named n = Gives (n, tt)

  in_two : (xs ys : List (Declaration ℕ)) (l : Listed) (later : List Form) → Join (all xs l later) (all ys l later) ≡ all (xs ++ ys) l later
  in_two [] ys l later = none_behind (all ys l later)
  in_two (x ∷ xs) ys l later =
      ap (λ (j : Both). Join j (all ys l later)) (sym (one_then x xs l later))
      ∙ (joins_assoc (one x l later) (all xs l later) (all ys l later) ∙ (ap (λ (j : Both). Join (one x l later) j) (in_two xs ys l later) ∙ one_then x (xs ++ ys) l later))

  only : (x : Declaration ℕ) (l : Listed) (later : List Form) → one x l later ≡ all (x ∷ []) l later
  only x l later = sym (part_gives (one x l later)) ∙ one_then x [] l later

  pub none_bound : (st : State) (c : Sharing) (names : Names) → Ready st c → Binds (all []) st st c names names (no_more tt)
  none_bound st c names ready = binds_none (all []) st st c names (no_more tt) (given (all [] st.listed) st st c (bind [] (no_more tt)) (same_itself st ready.kept) ready (λ later l. refl))

  pub one_bound : (old mid new : State) (a c : Sharing) (before between after : Names) (xs ys : List (Declaration ℕ)) (x : Declaration ℕ) → ys ≡ xs ++ x ∷ [] → Binds (all xs) old mid a before between (no_more tt)
      → Binds (one x) mid new c between after (no_more tt) → Binds (all ys) old new c before after (no_more tt)
  one_bound old mid new a c before between after xs ys x e h g =
      subst (λ (zs : List (Declaration ℕ)). Binds (all zs) old new c before after (no_more tt)) (sym e)
      (pushes_as (Joins (all xs) (one x) second) (all (xs ++ x ∷ [])) old new c before after (λ (u : Unit {0}). no_more u)
      (λ l later. ap (λ (j : Both). Join (all xs l later) j) (only x l later) ∙ in_two xs (x ∷ []) l later) (Ok tt)
      (both_bind (all xs) (one x) second old mid new a c before between after (no_more tt) (no_more tt) (no_more tt) (λ later. refl) h g))

  pub one_refused : (old mid new : State) (a c : Sharing) (before between after : Names) (xs ys zs : List (Declaration ℕ)) (x : Declaration ℕ) (r : Refusal) → zs ≡ xs ++ x ∷ ys → Binds (all xs) old mid a before between (no_more tt)
      → Pushes (one x) mid new c between after no_more (Err r) → Pushes (all zs) old new c before after no_more (Err r)
  one_refused old mid new a c before between after xs ys zs x r e h g =
      subst (λ (vs : List (Declaration ℕ)). Pushes (all vs) old new c before after no_more (Err r)) (sym e)
      (pushes_as (Joins (all xs) (all (x ∷ ys)) second) (all (xs ++ x ∷ ys)) old new c before after no_more (in_two xs (x ∷ ys)) (Err r)
      (second_refused (all xs) (all (x ∷ ys)) second old mid new a c before between after (no_more tt) no_more no_more r h
      (pushes_as (Joins (one x) (all ys) second) (all (x ∷ ys)) mid new c between after no_more (one_then x ys) (Err r)
      (first_pushes (one x) (λ l later b. Part (all ys l later) (rest b)) mid new c c between after seen_both no_more r (unpushed (one x) mid new c c between after seen_both no_more r g)))))
    where
      seen_both : Unit {0} → List Form → Scope × Unit {0}
      seen_both u later = ([], u)

  -- one of the list, where the names of types are these again
  pub one_there : {M : Type 0} (t : TypeScope) (d : Declaration ℕ) (f : DeclarationForm ℕ) (old new : State) (c : Sharing) (before after : Names) (show : M → List Form → Unit {0}) (r : Result M Refusal) → t ≡ s → f ≡ d.form
      → Pushes (signature_of t (plain_declaration_form f)) old new c before after show r → Pushes (one d) old new c before after show r
  one_there t d f old new c before after show r e g h =
      subst (λ (u : TypeScope). Pushes (signature_of u (plain_declaration_form d.form)) old new c before after show r) e
      (subst (λ (w : DeclarationForm ℕ). Pushes (signature_of t (plain_declaration_form w)) old new c before after show r) g h)
