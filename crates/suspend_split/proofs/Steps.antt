-- The steps of splitting: arguments, bindings, goals and constructs.
use Rattle.std.proofs.Common.{◌≡◌, ℕ, suc, ◌+◌, ◌≤◌, ◌<◌, refl, sym, ap, ◌∙◌, List, [], ◌∷◌, ◌++◌, length, map, drop, get_or, Option, Some, arith}
use Rattle.std.proofs.lemmas.List.{drop_more}
use Rattle.std.proofs.lemmas.Option.{get_or_from_slice_get}
use Rattle.std.specs.Prelude.{slice_get}
use Rattle.core_ir.specs.declared.expression.Expression.{Expression}
use Rattle.core_ir.specs.declared.code.Operand.{Operand}
use Rattle.core_ir.specs.declared.scopes.Outermost.{Outermost}
use Rattle.core_ir.specs.declared.expression.Binding.{Binding, out-Binding}
use Rattle.core_ir.specs.declared.expression.Binding.TheVariants as B
use Rattle.core_ir.specs.Expressions.{Exp, NoExp, AnExp, Goal, Do, Bind, Functions}
use Rattle.core_ir.specs.Code.{Code, Make}
use Rattle.core_ir.specs.CodeView.{Names}
use Rattle.core_ir.specs.ScopeNames.{scope_names, slots_from}
use Rattle.core_ir.specs.View.{exps, expression, binding, block}
use Rattle.core_laws.specs.Around.{Kind}
use Rattle.core_laws.specs.Slots.{operand, operands, place, count}
use Rattle.core_laws.specs.Split.{Emitted, Segments, emitted, split_exp, split_all, split_goal}
use Rattle.suspend_split.specs.declared.bindings.Opening.{Opening}
use Rattle.suspend_split.specs.declared.draft.Draft.{Draft}
use Rattle.suspend_split.specs.declared.draft.State.{State}
use Rattle.suspend_split.specs.Bindings.{bound, taken}
use Rattle.suspend_split.proofs.OpenedNames.{value_out, functions_out}
use Rattle.suspend_split.proofs.ExpressionViews.{value_is, functions_is}
use Rattle.suspend_split.specs.Drafts.{draft_code, segments_code}
use Rattle.suspend_split.specs.Makes.{Agree, Making, Makes, size_of}
use Rattle.suspend_split.proofs.Making.{agree_before, grows_then, makes_as, makes_then}

-- ---- arguments

count_is : (es : List Expression) → count (exps (map expression es)) ≡ length es
count_is [] = refl
count_is (e ∷ es) = ap suc (count_is es)

module _ (sizes_list : List ℕ) (o : Outermost) where
  abbrev sizes : ℕ → ℕ
  sizes = size_of sizes_list

  abbrev All : List Expression → ℕ → ℕ → Making
  All es h scope names ls c segments = split_all sizes (exps (map expression es)) h (names scope) ls c segments

  abbrev One : Exp → Option ℕ → ℕ → ℕ → Making
  One e t h scope names ls c segments = split_exp sizes e t h (names scope) ls c segments

  pub arguments_more : (a b c : State) (es : List Expression) (e : Expression) (n m free slot behind scope : ℕ) (p : Option ℕ) → n < length es → e ≡ get_or es n e → m ≡ n + 1 → slot ≡ free + n → behind ≡ slot + 1
      → p ≡ place (expression e) slot → Makes o a b (All (drop m es) (free + m) scope) → Makes o b c (One (expression e) p behind scope) → Makes o a c (All (drop n es) (free + n) scope)
  arguments_more a b c es e n m free slot behind scope p l read em es' eb ep f g =
      makes_as o a c (λ names ls k s. let r = All (drop m es) (free + m) scope names ls k s in One (expression e) p behind scope names ls r.code r.segments) (All (drop n es) (free + n) scope)
      (makes_then o a b c (All (drop m es) (free + m) scope) (One (expression e) p behind scope) f g)
      (λ names ok. same (names scope) a.around _ _)
    where
      h : ℕ
      h = free + n

      same : (ns : List Operand) (ls : List Kind) (k : Code) (s : Segments)
          → (let r = split_all sizes (exps (map expression (drop m es))) (free + m) ns ls k s in split_exp sizes (expression e) p behind ns ls r.code r.segments) ≡ split_all sizes (exps (map expression (drop n es))) (free + n) ns ls k s
      same ns ls k s =
          ap (λ m. let r = split_all sizes (exps (map expression (drop m es))) (free + m) ns ls k s in split_exp sizes (expression e) p behind ns ls r.code r.segments) em
          ∙ ap (λ x. let r = split_all sizes (exps (map expression (drop (n + 1) es))) x ns ls k s in split_exp sizes (expression e) p behind ns ls r.code r.segments) (let z : free + (n + 1) ≡ suc (free + n) = omega arith in z)
          ∙ ap (λ x. let r = split_all sizes (exps (map expression (drop (n + 1) es))) (suc (free + n)) ns ls k s in split_exp sizes (expression e) p x ns ls r.code r.segments) (let z : behind ≡ suc (free + n) = omega (arith, eb, es') in z)
          ∙ ap (λ x. let r = split_all sizes (exps (map expression (drop (n + 1) es))) (suc (free + n)) ns ls k s in split_exp sizes (expression e) x (suc (free + n)) ns ls r.code r.segments) (ep ∙ ap (place (expression e)) es')
          ∙ ap (λ (x : Expression). split_all sizes (AnExp (expression x) (exps (map expression (drop (n + 1) es)))) (free + n) ns ls k s) read
          ∙ sym (ap (λ xs. split_all sizes (exps (map expression xs)) (free + n) ns ls k s) (drop_more es n e l))

  -- ---- the goal, and then the arguments before it

  pub do_makes : (a b c : State) (goal : Goal) (es : List Expression) (xs : List Operand) (t : Option ℕ) (free behind scope : ℕ) → scope ≤ length a.scopes → xs ≡ operands (scope_names a.scopes o scope) (exps (map expression es)) free
      → behind ≡ free + length es → Makes o a b (λ names ls c s. split_goal sizes goal xs t behind (names scope) ls c s) → Makes o b c (All es free scope) → Makes o a c (One (Do goal (exps (map expression es))) t free scope)
  do_makes a b c goal es xs t free behind scope l is eb f g =
      makes_as o a c (λ names ls k s. let r = split_goal sizes goal xs t behind (names scope) ls k s in All es free scope names ls r.code r.segments) (One (Do goal (exps (map expression es))) t free scope)
      (makes_then o a b c (λ names ls c s. split_goal sizes goal xs t behind (names scope) ls c s) (All es free scope) f g)
      (λ names ok. let ns = names scope in
      let k = draft_code names a.draft in let s = segments_code names a.segments.list.items in
      ap (λ h. let r = split_goal sizes goal xs t h ns a.around k s in split_all sizes (exps (map expression es)) free ns a.around r.code r.segments) (eb ∙ ap (λ k. free + k) (sym (count_is es)))
      ∙ ap (λ ys. let r = split_goal sizes goal ys t (free + count (exps (map expression es))) ns a.around k s in split_all sizes (exps (map expression es)) free ns a.around r.code r.segments)
      (is ∙ ap (λ ns. operands ns (exps (map expression es)) free) (sym (agree_before o a.scopes c.scopes names (grows_then a.scopes b.scopes c.scopes f.scopes g.scopes) ok scope l))))

  -- ---- bindings, each around what stands behind it

  abbrev Block : List Binding → Exp → Option ℕ → ℕ → ℕ → Making
  Block bs e t h scope names ls c segments = split_exp sizes (block (map binding bs) e) t h (names scope) ls c segments

  pub block_value : (a b c : State) (bs : List Binding) (x : Exp) (v : Expression) (n m : ℕ) (at inner : Opening) (p t : Option ℕ) (behind : ℕ) → n < length bs → slice_get bs n ≡ Some (B.Value v) → m ≡ n + 1
      → inner.free ≡ at.free + taken sizes_list (out-Binding (B.Value v))
      → ((names : Names) → Agree o c.scopes names → names inner.scope ≡ bound sizes_list (out-Binding (B.Value v)) at.free (names at.scope))
      → p ≡ place (expression v) at.free → behind ≡ at.free + 1 → Makes o a b (Block (drop m bs) x t inner.free inner.scope) → Makes o b c (One (expression v) p behind at.scope) → Makes o a c (Block (drop n bs) x t at.free at.scope)
  block_value a b c bs x v n m at inner p t behind l read em ef en ep eb f g =
      makes_as o a c (λ names ls k s. let r = Block (drop m bs) x t inner.free inner.scope names ls k s in One (expression v) p behind at.scope names ls r.code r.segments) (Block (drop n bs) x t at.free at.scope)
      (makes_then o a b c (Block (drop m bs) x t inner.free inner.scope) (One (expression v) p behind at.scope) f g)
      (λ names ok. same (names at.scope) (names inner.scope) (en names ok ∙ ap (λ y. bound sizes_list y at.free (names at.scope)) (value_out v)) a.around (draft_code names a.draft) (segments_code names a.segments.list.items))
    where
      rest : Exp
      rest = block (map binding (drop (n + 1) bs)) x

      free_is : inner.free ≡ at.free + 1
      free_is = ef ∙ ap (λ y. at.free + taken sizes_list y) (value_out v)

      whole : block (map binding (drop n bs)) x ≡ Do (Bind rest) (AnExp (expression v) NoExp)
      whole = ap (λ bs. block (map binding bs) x) (drop_more bs n (B.Value v) l ∙ ap (λ b. b ∷ drop (n + 1) bs) (get_or_from_slice_get bs n (B.Value v) (B.Value v) read)) ∙ value_is v rest

      same : (ns is : List Operand) → is ≡ operand ns (expression v) at.free ∷ ns → (ls : List Kind) (k : Code) (s : Segments)
          → (let r = split_exp sizes (block (map binding (drop m bs)) x) t inner.free is ls k s in split_exp sizes (expression v) p behind ns ls r.code r.segments) ≡ split_exp sizes (block (map binding (drop n bs)) x) t at.free ns ls k s
      same ns is e ls k s =
          ap (λ m. let r = split_exp sizes (block (map binding (drop m bs)) x) t inner.free is ls k s in split_exp sizes (expression v) p behind ns ls r.code r.segments) em
          ∙ ap (λ h. let r = split_exp sizes rest t h is ls k s in split_exp sizes (expression v) p behind ns ls r.code r.segments) free_is
          ∙ ap (λ is. let r = split_exp sizes rest t (at.free + 1) is ls k s in split_exp sizes (expression v) p behind ns ls r.code r.segments) e
          ∙ ap (λ q. let r = split_exp sizes rest t (at.free + 1) (operand ns (expression v) at.free ∷ ns) ls k s in split_exp sizes (expression v) q behind ns ls r.code r.segments) ep
          ∙ ap (λ h. let r = split_exp sizes rest t (at.free + 1) (operand ns (expression v) at.free ∷ ns) ls k s in split_exp sizes (expression v) (place (expression v) at.free) h ns ls r.code r.segments) (let z : behind ≡ suc at.free = omega (arith, eb) in z)
          ∙ sym (ap (λ y. split_exp sizes y t at.free ns ls k s) whole)

  pub block_functions : (a b : State) (d : Draft) (bs : List Binding) (x : Exp) (g n m : ℕ) (at inner : Opening) (t : Option ℕ) → n < length bs → slice_get bs n ≡ Some (B.Functions g) → m ≡ n + 1
      → inner.free ≡ at.free + taken sizes_list (out-Binding (B.Functions g))
      → ((names : Names) → Agree o b.scopes names → names inner.scope ≡ bound sizes_list (out-Binding (B.Functions g)) at.free (names at.scope))
      → ((names : Names) → draft_code names d ≡ Make at.free (names at.scope) g (draft_code names b.draft))
      → Makes o a b (Block (drop m bs) x t inner.free inner.scope) → Makes o a (record { draft = d; segments = b.segments; scopes = b.scopes; around = b.around }) (Block (drop n bs) x t at.free at.scope)
  block_functions a b d bs x g n m at inner t l read em ef en ed f = record {
    around = f.around;
    scopes = f.scopes;
    makes = λ names ok.
        let ns = names at.scope in
        ap (λ c. emitted c (segments_code names b.segments.list.items)) (ed names)
        ∙ ap (λ (r : Emitted). emitted (Make at.free ns g r.code) r.segments) (f.makes names ok)
        ∙ same ns (names inner.scope) (en names ok ∙ ap (λ y. bound sizes_list y at.free ns) (functions_out g)) a.around (draft_code names a.draft) (segments_code names a.segments.list.items);
  }
    where
      rest : Exp
      rest = block (map binding (drop (n + 1) bs)) x

      whole : block (map binding (drop n bs)) x ≡ Functions g rest
      whole = ap (λ bs. block (map binding bs) x) (drop_more bs n (B.Functions g) l ∙ ap (λ b. b ∷ drop (n + 1) bs) (get_or_from_slice_get bs n (B.Functions g) (B.Functions g) read)) ∙ functions_is g rest

      same : (ns is : List Operand) → is ≡ slots_from at.free (sizes g) ++ ns → (ls : List Kind) (k : Code) (s : Segments)
          → (let r = split_exp sizes (block (map binding (drop m bs)) x) t inner.free is ls k s in emitted (Make at.free ns g r.code) r.segments) ≡ split_exp sizes (block (map binding (drop n bs)) x) t at.free ns ls k s
      same ns is e ls k s =
          ap (λ m. let r = split_exp sizes (block (map binding (drop m bs)) x) t inner.free is ls k s in emitted (Make at.free ns g r.code) r.segments) em
          ∙ ap (λ h. let r = split_exp sizes rest t h is ls k s in emitted (Make at.free ns g r.code) r.segments) (ef ∙ ap (λ y. at.free + taken sizes_list y) (functions_out g))
          ∙ ap (λ is. let r = split_exp sizes rest t (at.free + sizes g) is ls k s in emitted (Make at.free ns g r.code) r.segments) e
          ∙ sym (ap (λ y. split_exp sizes y t at.free ns ls k s) whole)
