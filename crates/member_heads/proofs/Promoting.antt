-- Type parameters, and where their bounds lead.
use Rattle.std.proofs.Common.{◌≡◌, ◌∙◌, ℕ, zero, suc, ◌+◌, List, [], ◌∷◌, length, Option, Some, None, refl, ap, arith}
use Rattle.type_terms.specs.declared.form.Form.{Form}
use Rattle.type_terms.specs.declared.form.TermId.{TermId}
use Rattle.typing_rules.specs.Definitions.{Definitions}
use Rattle.typing_rules.specs.Heads.{bound_of, head, promoted, promoted_once}
use Rattle.typing_rules.specs.Terms.{Term}
use Rattle.type_definitions.specs.Definitions.{as_bounds, rules_in}
use Rattle.type_definitions.specs.Meanings.{term}
use Rattle.type_definitions.specs.Tables.{Later}
use Rattle.met_types.specs.States.{State}
use Rattle.judging.specs.Heads.{HeadHas}
use Rattle.member_heads.specs.Members.{IsPromoted}

length_bounds : (at : TermId → Term) (ns : List ℕ) (bs : List TermId) → length ns ≡ length bs → length (as_bounds at ns bs) ≡ length bs
length_bounds at [] [] e = refl
length_bounds at [] (b ∷ bs) e = absurd (omega (arith, e))
length_bounds at (n ∷ ns) [] e = absurd (omega (arith, e))
length_bounds at (n ∷ ns) (b ∷ bs) e =
    let g : length ns ≡ length bs = omega (arith, e) in
    let h : length (as_bounds at ns bs) ≡ length bs = length_bounds at ns bs g in
    omega (arith, h)

-- a type that is no parameter stays
stays : (defs : Definitions) (n : ℕ) (u : Term) → bound_of (head defs u) ≡ None → promoted defs n u ≡ u
stays defs zero u e = refl
stays defs (suc n) u e = ap (λ (o : Option Term). promoted defs n (promoted_once o u)) e ∙ stays defs n u e

module _ (s : State) (start : TermId) where
  -- it leads here, where so many steps are left
  abbrev pub Leads : ℕ → TermId → Type 0
  Leads left last = (later : List Form) → Later s.forms later
      → promoted (rules_in later s.listed) (suc (length (rules_in later s.listed).parameters)) (term later start) ≡ promoted (rules_in later s.listed) left (term later last)

  pub leads_first : (n : ℕ) → n ≡ length s.listed.bounds + 1 → length s.listed.bounded ≡ length s.listed.bounds → Leads n start
  leads_first n e g later l =
      let h : length (as_bounds (term later) s.listed.bounded s.listed.bounds) ≡ length s.listed.bounds = length_bounds (term later) s.listed.bounded s.listed.bounds g in
      let i : suc (length (as_bounds (term later) s.listed.bounded s.listed.bounds)) ≡ n = omega (arith, h, e) in
      ap (λ (k : ℕ). promoted (rules_in later s.listed) k (term later start)) i

  pub leads_on : (left m : ℕ) (last next : TermId) → left ≡ suc m → HeadHas bound_of s last (λ later. Some (term later next)) → Leads left last → Leads m next
  leads_on left m last next e h p later l =
      p later l
      ∙ (ap (λ (k : ℕ). promoted (rules_in later s.listed) k (term later last)) e
      ∙ ap (λ (o : Option Term). promoted (rules_in later s.listed) m (promoted_once o (term later last))) (h later l))

  pub leads_no_more : (left : ℕ) (last : TermId) → HeadHas bound_of s last (λ later. None) → Leads left last → IsPromoted s start last
  leads_no_more left last h p later l = p later l ∙ stays (rules_in later s.listed) left (term later last) (h later l)

  pub leads_to : (left : ℕ) (last : TermId) → left ≡ 0 → Leads left last → IsPromoted s start last
  leads_to left last e p later l = p later l ∙ ap (λ (k : ℕ). promoted (rules_in later s.listed) k (term later last)) e
