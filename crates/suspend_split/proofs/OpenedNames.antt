-- Names that bindings bind.
use Rattle.std.proofs.Common.{◌≡◌, ℕ, zero, suc, ◌+◌, ◌≤◌, ◌<◌, refl, sym, ap, ◌∙◌, subst, ◌⊎◌, inl, inr, List, [], ◌∷◌, ◌++◌, length, get_or, Some, arith}
use Rattle.std.specs.Prelude.{slice_get}
use Rattle.std.proofs.lemmas.Bool.{cases_lt}
use Rattle.std.proofs.lemmas.List.{get_or_append_left, get_or_default, get_or_push, length-append}
use Rattle.std.proofs.lemmas.Option.{slice_get_read}
use Rattle.core_ir.specs.declared.expression.Binding.{Binding, out-Binding, out-roll-Binding}
use Rattle.core_ir.specs.declared.expression.Binding.TheVariants as B
use Rattle.core_ir.specs.declared.expression.Binding.TheOpen as E
use Rattle.core_ir.specs.declared.expression.Expression.{Expression}
use Rattle.core_ir.specs.declared.code.Operand.{Operand}
use Rattle.core_ir.specs.declared.code.Operand.TheVariants.{Slot}
use Rattle.core_ir.specs.declared.scopes.Outermost.{Outermost}
use Rattle.core_ir.specs.CodeView.{Names}
use Rattle.core_ir.specs.ScopeNames.{names_at, scope_names, slots_from}
use Rattle.core_ir.specs.View.{expression}
use Rattle.core_ir.proofs.Scoping.{nth_got}
use Rattle.core_laws.specs.Slots.{operand}
use Rattle.suspend_split.specs.declared.bindings.Opening.{Opening}
use Rattle.suspend_split.specs.Bindings.{bound, taken, Slots, Opens, OpensFirst, nowhere}
use Rattle.suspend_split.specs.Makes.{Agree, size_of}
use Rattle.suspend_split.proofs.Making.{grows_by, grows_not, grows_then, grows_length, agree_before, agree_added}

pub value_out : (e : Expression) → out-Binding (B.Value e) ≡ E.Value e
value_out e = ap out-Binding (sym (B.rolls-Value e)) ∙ out-roll-Binding (E.Value e)

pub functions_out : (k : ℕ) → out-Binding (B.Functions k) ≡ E.Functions k
functions_out k = ap out-Binding (sym (B.rolls-Functions k)) ∙ out-roll-Binding (E.Functions k)

-- ---- sizes of groups

pub size_read : (sizes : List ℕ) (k x : ℕ) → k < length sizes → x ≡ get_or sizes k x → x ≡ size_of sizes k
size_read sizes k x l read = sym (nth_got 0 sizes k x (slice_get_read sizes (length sizes) k x refl l read))

pub size_missing : (sizes : List ℕ) (k : ℕ) → length sizes ≤ k → 0 ≡ size_of sizes k
size_missing [] k l = refl
size_missing (x ∷ sizes) zero l = absurd (omega (arith, l))
size_missing (x ∷ sizes) (suc k) l = size_missing sizes k (omega (arith, l))

-- ---- slots

pub slots_more : (slot m scope inner number : ℕ) (a b c : List (List Operand)) → Slots (suc slot) m scope inner a b → c ≡ b ++ (Slot slot ∷ names_at b inner) ∷ [] → number ≡ length c → Slots slot (suc m) scope number a c
slots_more slot m scope inner number a b c s e n = record {
  grows = grows_then a b c s.grows (grows_by b c _ e);
  within = omega (arith, n);
  holds = λ o names ok. agree_added o b c names (Slot slot) inner number e n s.within ok ∙ ap (λ xs. Slot slot ∷ xs) (s.holds o names (agree_before o b c names (grows_by b c _ e) ok));
}

-- ---- a binding

pub opens_value : (o : Outermost) (sizes : List ℕ) (b : Binding) (v : Expression) (at behind : Opening) (x : Operand) (a c : List (List Operand)) → b ≡ B.Value v → x ≡ operand (scope_names a o at.scope) (expression v) at.free
    → c ≡ a ++ (x ∷ names_at a at.scope) ∷ [] → behind.scope ≡ length c → behind.free ≡ at.free + 1 → at.scope ≤ length a → Opens o sizes b at behind a c
opens_value o sizes b v at behind x a c is xs e n f l = record {
  grows = grows_by a c _ e;
  within = omega (arith, n);
  free = f ∙ ap (λ y. at.free + taken sizes y) (sym out);
  binds = λ names ok.
      agree_added o a c names x at.scope behind.scope e n l ok
      ∙ ap (λ y. y ∷ names at.scope) (xs ∙ ap (λ ns. operand ns (expression v) at.free) (sym (agree_before o a c names (grows_by a c _ e) ok at.scope l)))
      ∙ ap (λ y. bound sizes y at.free (names at.scope)) (sym out);
}
  where
    out : out-Binding b ≡ E.Value v
    out = ap out-Binding is ∙ value_out v

pub opens_functions : (o : Outermost) (sizes : List ℕ) (b : Binding) (k : ℕ) (at behind : Opening) (count : ℕ) (a c : List (List Operand)) → b ≡ B.Functions k → count ≡ size_of sizes k
    → Slots at.free count at.scope behind.scope a c → behind.free ≡ at.free + count → Opens o sizes b at behind a c
opens_functions o sizes b k at behind count a c is n s f = record {
  grows = s.grows;
  within = s.within;
  free = f ∙ ap (λ m. at.free + m) n ∙ ap (λ y. at.free + taken sizes y) (sym out);
  binds = λ names ok. s.holds o names ok ∙ ap (λ m. slots_from at.free m ++ names at.scope) n ∙ ap (λ y. bound sizes y at.free (names at.scope)) (sym out);
}
  where
    out : out-Binding b ≡ E.Functions k
    out = ap out-Binding is ∙ functions_out k

-- ---- bindings

pub opens_none : (o : Outermost) (sizes : List ℕ) (bs : List Binding) (at : Opening) (a : List (List Operand)) → at.scope ≤ length a → OpensFirst o sizes bs at 0 (at ∷ []) a a
opens_none o sizes bs at a l = record {
  grows = grows_not a;
  count = refl;
  begins = refl;
  within = λ n m. subst (λ k. (get_or (at ∷ []) k nowhere).scope ≤ length a) (let e : 0 ≡ n = omega (arith, m) in e) l;
  frees = λ n b m e. absurd (omega (arith, m));
  binds = λ names ok n b m e. absurd (omega (arith, m));
}

pub opens_more : (o : Outermost) (sizes : List ℕ) (bs : List Binding) (at now q : Opening) (i : ℕ) (b : Binding) (places : List Opening) (x y z : List (List Operand)) → OpensFirst o sizes bs at i places x y
    → now ≡ get_or places i nowhere → slice_get bs i ≡ Some b → Opens o sizes b now q y z → OpensFirst o sizes bs at (i + 1) (places ++ q ∷ []) x z
opens_more o sizes bs at now q i b places x y z f is read s = record {
  grows = grows_then x y z f.grows s.grows;
  count = let k = length-append places (q ∷ []) in let c = f.count in omega (arith, k, c);
  begins = old 0 (omega arith) ∙ f.begins;
  within = λ n l. which_within n (cases_lt n (suc i)) l;
  frees = λ n c l r. which_frees n c r (cases_lt n i) l;
  binds = λ names ok n c l r. which_binds names ok n c r (cases_lt n i) l;
}
  where
    old : (n : ℕ) → n ≤ i → get_or (places ++ q ∷ []) n nowhere ≡ get_or places n nowhere
    old n l = get_or_append_left places (q ∷ []) nowhere n (let c = f.count in omega (arith, c, l))

    new : get_or (places ++ q ∷ []) (suc i) nowhere ≡ q
    new = get_or_push places q nowhere (suc i) f.count

    same : (n : ℕ) (c : Binding) → n ≡ i → slice_get bs n ≡ Some c → c ≡ b
    same n c e r = let z : Some c ≡ Some b = sym r ∙ ap (slice_get bs) e ∙ read in cc

    which_within : (n : ℕ) → (n < suc i) ⊎ (suc i ≤ n) → n ≤ i + 1 → (get_or (places ++ q ∷ []) n nowhere).scope ≤ length z
    which_within n (inl l) m = subst (λ (p : Opening). p.scope ≤ length z) (sym (old n (omega (arith, l)))) (let k = grows_length y z s.grows in let w = f.within n (omega (arith, l)) in omega (arith, k, w))
    which_within n (inr l) m = subst (λ k. (get_or (places ++ q ∷ []) k nowhere).scope ≤ length z) (let e : suc i ≡ n = omega (arith, l, m) in e) (subst (λ (p : Opening). p.scope ≤ length z) (sym new) s.within)

    which_frees : (n : ℕ) (c : Binding) → slice_get bs n ≡ Some c → (n < i) ⊎ (i ≤ n) → n < i + 1
        → (get_or (places ++ q ∷ []) (suc n) nowhere).free ≡ (get_or (places ++ q ∷ []) n nowhere).free + taken sizes (out-Binding c)
    which_frees n c r (inl l) m = ap (λ (p : Opening). p.free) (old (suc n) (omega (arith, l))) ∙ f.frees n c l r ∙ ap (λ (p : Opening). p.free + taken sizes (out-Binding c)) (sym (old n (omega (arith, l))))
    which_frees n c r (inr l) m =
        let e : n ≡ i = omega (arith, l, m) in
        ap (λ k. (get_or (places ++ q ∷ []) (suc k) nowhere).free) e ∙ ap (λ (p : Opening). p.free) new ∙ s.free
        ∙ ap (λ (p : Opening). p.free + taken sizes (out-Binding b)) (is ∙ sym (old i (omega arith)) ∙ ap (λ k. get_or (places ++ q ∷ []) k nowhere) (sym e))
        ∙ ap (λ c. (get_or (places ++ q ∷ []) n nowhere).free + taken sizes (out-Binding c)) (sym (same n c e r))

    which_binds : (names : Names) → Agree o z names → (n : ℕ) (c : Binding) → slice_get bs n ≡ Some c → (n < i) ⊎ (i ≤ n) → n < i + 1
        → names (get_or (places ++ q ∷ []) (suc n) nowhere).scope ≡ bound sizes (out-Binding c) (get_or (places ++ q ∷ []) n nowhere).free (names (get_or (places ++ q ∷ []) n nowhere).scope)
    which_binds names ok n c r (inl l) m =
        ap (λ (p : Opening). names p.scope) (old (suc n) (omega (arith, l))) ∙ f.binds names (agree_before o y z names s.grows ok) n c l r
        ∙ ap (λ (p : Opening). bound sizes (out-Binding c) p.free (names p.scope)) (sym (old n (omega (arith, l))))
    which_binds names ok n c r (inr l) m =
        let e : n ≡ i = omega (arith, l, m) in
        ap (λ k. names (get_or (places ++ q ∷ []) (suc k) nowhere).scope) e ∙ ap (λ (p : Opening). names p.scope) new ∙ s.binds names ok
        ∙ ap (λ (p : Opening). bound sizes (out-Binding b) p.free (names p.scope)) (is ∙ sym (old i (omega arith)) ∙ ap (λ k. get_or (places ++ q ∷ []) k nowhere) (sym e))
        ∙ ap (λ c. bound sizes (out-Binding c) (get_or (places ++ q ∷ []) n nowhere).free (names (get_or (places ++ q ∷ []) n nowhere).scope)) (sym (same n c e r))

pub opened_last : (places : List Opening) (q : Opening) (i : ℕ) → length places ≡ suc i → q ≡ get_or (places ++ q ∷ []) (i + 1) nowhere
opened_last places q i c = sym (ap (λ k. get_or (places ++ q ∷ []) k nowhere) (let e : i + 1 ≡ suc i = omega arith in e) ∙ get_or_push places q nowhere (suc i) c)

pub opened_at : (places : List Opening) (i : ℕ) (x : Opening) → i < length places → x ≡ get_or places i x → x ≡ get_or places i nowhere
opened_at places i x l read = read ∙ get_or_default places i x nowhere l
