-- Lists of methods: where they were read up to, and where they end.
use Rattle.std.proofs.Common.{◌≡◌, ℕ, ◌+◌, ◌<◌, ◌≤◌, List, [], ◌∷◌, ◌++◌, length, refl, ap, sym, ◌∙◌, subst, arith, codes, inl, inr, ◌⊎◌, append_assoc, append-nil, get_or}
use Rattle.query_source.specs.declared.query.Method.{Method}
use Rattle.query_source.specs.Tokens.{Next, Reads, IsText}
use Rattle.query_source.specs.Source.{AreMethods}
use Rattle.query_source.specs.Reading.{BeginsMethod, EndsMethods}
use Rattle.query_source.proofs.Tokens.{next_takes, reads_join, reads_split}
use Rattle.query_source.proofs.Reading.{next_same, next_after}
use Rattle.query_source.proofs.Parts.{FromHead, method_parts, method_same}
use Rattle.query_source.proofs.Lengths.{method_takes}

-- what a list without methods is, and one with some
ends_none : (s : List ℕ) → EndsMethods [] s → IsText (codes "}" ∷ []) s
ends_none s e = subst (λ ts. IsText (ts ++ codes "}" ∷ []) s) e.are_methods e.spelled

none_ends : (s : List ℕ) → IsText (codes "}" ∷ []) s → EndsMethods [] s
none_ends s t = record { tokens = []; are_methods = refl; spelled = t }

abbrev EndsSome : Method → List Method → List ℕ → Type 0
EndsSome m ms s = (mid : List ℕ) × BeginsMethod m s mid × (((ms ≡ []) × IsText (codes "}" ∷ []) mid) ⊎ ((after : List ℕ) × Next (codes ";") mid after × EndsMethods ms after))

-- the tokens behind the first method
ends_rest : (ms : List Method) (rest : List (List ℕ)) (mid : List ℕ) → ((ms ≡ []) × (rest ≡ [])) ⊎ ((more : List (List ℕ)) × (rest ≡ codes ";" ∷ more) × AreMethods ms more) → IsText (rest ++ codes "}" ∷ []) mid → ((ms ≡ []) × IsText (codes "}" ∷ []) mid) ⊎ ((after : List ℕ) × Next (codes ";") mid after × EndsMethods ms after)
ends_rest ms rest mid (inl none) t = inl (none.0, subst (λ ts. IsText (ts ++ codes "}" ∷ []) mid) none.1 t)
ends_rest ms rest mid (inr more) t =
    let u : IsText (codes ";" ∷ (more.0 ++ codes "}" ∷ [])) mid = subst (λ ts. IsText (ts ++ codes "}" ∷ []) mid) more.1 t in
    inr (u.1.0, u.1.1, record { tokens = more.0; are_methods = more.2; spelled = (u.0, u.1.2, u.2) })

pub ends_some : (m : Method) (ms : List Method) (s : List ℕ) → EndsMethods (m ∷ ms) s → EndsSome m ms s
ends_some m ms s e =
    let a = e.are_methods in
    let whole : Reads (a.0 ++ (a.1 ++ codes "}" ∷ [])) s e.spelled.0 = subst (λ ts. Reads ts s e.spelled.0) (ap (λ ts. ts ++ codes "}" ∷ []) a.2 ∙ append_assoc a.0 a.1 (codes "}" ∷ [])) e.spelled.1 in
    let parts : (mid : List ℕ) × Reads a.0 s mid × Reads (a.1 ++ codes "}" ∷ []) mid e.spelled.0 = reads_split a.0 (a.1 ++ codes "}" ∷ []) s e.spelled.0 whole in
    (parts.0, record { tokens = a.0; is_method = a.3; reads = parts.1 }, ends_rest ms a.1 parts.0 a.4 (e.spelled.0, parts.2, e.spelled.2))

ends_made : (m : Method) (ms : List Method) (s mid : List ℕ) (rest : List (List ℕ)) → BeginsMethod m s mid → ((ms ≡ []) × (rest ≡ [])) ⊎ ((more : List (List ℕ)) × (rest ≡ codes ";" ∷ more) × AreMethods ms more) → IsText (rest ++ codes "}" ∷ []) mid → EndsMethods (m ∷ ms) s
ends_made m ms s mid rest b parted t = record {
  tokens = b.tokens ++ rest;
  are_methods = (b.tokens, rest, refl, b.is_method, parted);
  spelled = (t.0, subst (λ ts. Reads ts s t.0) (sym (append_assoc b.tokens rest (codes "}" ∷ []))) (reads_join b.tokens (rest ++ codes "}" ∷ []) s mid t.0 b.reads t.1), t.2);
}

last_ends : (m : Method) (s mid : List ℕ) → BeginsMethod m s mid → IsText (codes "}" ∷ []) mid → EndsMethods (m ∷ []) s
last_ends m s mid b t = ends_made m [] s mid [] b (inl (refl, refl)) t

more_ends : (m : Method) (ms : List Method) (s mid after : List ℕ) → BeginsMethod m s mid → Next (codes ";") mid after → EndsMethods ms after → EndsMethods (m ∷ ms) s
more_ends m ms s mid after b n e =
    ends_made m ms s mid (codes ";" ∷ e.tokens) b (inr (e.tokens, refl, e.are_methods)) (e.spelled.0, (after, n, e.spelled.1), e.spelled.2)

-- a method, a semicolon and a brace don't stand in one place
brace_no_semicolon : (s r : List ℕ) → Next (codes ";") s r → IsText (codes "}" ∷ []) s → ⊥
brace_no_semicolon s r a t = let e : codes ";" ++ r ≡ codes "}" ++ t.1.0 = sym (next_after (codes ";") s r refl a) ∙ next_after (codes "}") s t.1.0 refl t.1.1 in cc

public_no_brace : (x y : List ℕ) → codes "public" ++ x ≡ codes "}" ++ y → ⊥
public_no_brace x y e = let first : ◌≡◌ {A = ℕ} 112 125 = ap (λ (xs : List ℕ). get_or xs 0 0) e in absurd (omega arith)

brace_no_method : (m : Method) (s r : List ℕ) → BeginsMethod m s r → IsText (codes "}" ∷ []) s → ⊥
brace_no_method m s r b t =
    let p : FromHead m s r = method_parts m s r b in
    public_no_brace p.1.0 t.1.0 (sym (next_after (codes "public") s p.1.0 refl p.1.1) ∙ next_after (codes "}") s t.1.0 refl t.1.1)

-- The methods were read from the start up to here: the lists that end there are those that go on with one that ends here.
pub record Split (done methods : List Method) (here : List ℕ) : Type 0 where
  pub tail : List Method
  pub whole : methods ≡ done ++ tail
  pub ends : EndsMethods tail here

pub record Collects (done : List Method) (start here : List ℕ) : Type 0 where
  pub on : (tail : List Method) → EndsMethods tail here → EndsMethods (done ++ tail) start
  pub back : (methods : List Method) → EndsMethods methods start → Split done methods here

pub collects_none : (s : List ℕ) → Collects [] s s
collects_none s = record {
  on = λ tail e. e;
  back = λ methods e. record { tail = methods; whole = refl; ends = e };
}

back_more : (done tail : List Method) (m : Method) (here mid after : List ℕ) → BeginsMethod m here mid → Next (codes ";") mid after → EndsMethods tail here → Split (done ++ m ∷ []) (done ++ tail) after
back_more done [] m here mid after b n e = absurd (brace_no_method m here mid b (ends_none here e))
back_more done (x ∷ xs) m here mid after b n e =
    let s : EndsSome x xs here = ends_some x xs here e in
    let same : (m ≡ x) × (mid ≡ s.0) = method_same m x here mid s.0 b s.1 in
    let ends : EndsMethods xs after = elim (s.2) [
      | inl last ↦ absurd (brace_no_semicolon mid after n (subst (λ r. IsText (codes "}" ∷ []) r) (sym same.1) last.1))
      | inr more ↦ subst (λ r. EndsMethods xs r) (next_same (codes ";") mid more.0 after refl (subst (λ r. Next (codes ";") r more.0) (sym same.1) more.1) n) more.2
    ] in
    record { tail = xs; whole = ap (λ y. done ++ y ∷ xs) (sym same.0) ∙ sym (append_assoc done (m ∷ []) xs); ends = ends }

pub collects_more : (done : List Method) (m : Method) (start here mid after : List ℕ) → BeginsMethod m here mid → Next (codes ";") mid after → Collects done start here → Collects (done ++ m ∷ []) start after
collects_more done m start here mid after b n c = record {
  on = λ tail e. subst (λ ms. EndsMethods ms start) (sym (append_assoc done (m ∷ []) tail)) (c.on (m ∷ tail) (more_ends m tail here mid after b n e));
  back = λ methods e.
      let s : Split done methods here = c.back methods e in
      subst (λ ms. Split (done ++ m ∷ []) ms after) (sym s.whole) (back_more done s.tail m here mid after b n s.ends);
}

-- No more method stands here.
pub closed_here : (done : List Method) (start here : List ℕ) → Collects done start here → IsText (codes "}" ∷ []) here → EndsMethods done start
closed_here done start here c t = subst (λ ms. EndsMethods ms start) (append-nil done) (c.on [] (none_ends here t))

only_here : (done tail methods : List Method) (here : List ℕ) → ((m : Method) (rest : List ℕ) → BeginsMethod m here rest → ⊥) → methods ≡ done ++ tail → EndsMethods tail here → (methods ≡ done) × IsText (codes "}" ∷ []) here
only_here done [] methods here absent e ends = (e ∙ append-nil done, ends_none here ends)
only_here done (x ∷ xs) methods here absent e ends = let s : EndsSome x xs here = ends_some x xs here ends in absurd (absent x s.0 s.1)

pub closed_only : (done methods : List Method) (start here : List ℕ) → Collects done start here → ((m : Method) (rest : List ℕ) → BeginsMethod m here rest → ⊥) → EndsMethods methods start → (methods ≡ done) × IsText (codes "}" ∷ []) here
closed_only done methods start here c absent e = let s : Split done methods here = c.back methods e in only_here done s.tail methods here absent s.whole s.ends

-- A last method stands here, with no semicolon behind it.
pub closed_after : (done : List Method) (m : Method) (start here mid : List ℕ) → Collects done start here → BeginsMethod m here mid → IsText (codes "}" ∷ []) mid → EndsMethods (done ++ m ∷ []) start
closed_after done m start here mid c b t = c.on (m ∷ []) (last_ends m here mid b t)

only_after : (done tail methods : List Method) (m : Method) (here mid : List ℕ) → BeginsMethod m here mid → ((r : List ℕ) → Next (codes ";") mid r → ⊥) → methods ≡ done ++ tail → EndsMethods tail here → (methods ≡ done ++ m ∷ []) × IsText (codes "}" ∷ []) mid
only_after done [] methods m here mid b absent e ends = absurd (brace_no_method m here mid b (ends_none here ends))
only_after done (x ∷ xs) methods m here mid b absent e ends =
    let s : EndsSome x xs here = ends_some x xs here ends in
    let same : (m ≡ x) × (mid ≡ s.0) = method_same m x here mid s.0 b s.1 in
    elim (s.2) [
      | inl last ↦ (e ∙ ap (λ ys. done ++ x ∷ ys) last.0 ∙ ap (λ y. done ++ y ∷ []) (sym same.0), subst (λ r. IsText (codes "}" ∷ []) r) (sym same.1) last.1)
      | inr more ↦ absurd (absent more.0 (subst (λ r. Next (codes ";") r more.0) (sym same.1) more.1))
    ]

pub closed_after_only : (done methods : List Method) (m : Method) (start here mid : List ℕ) → Collects done start here → BeginsMethod m here mid → ((r : List ℕ) → Next (codes ";") mid r → ⊥) → EndsMethods methods start → (methods ≡ done ++ m ∷ []) × IsText (codes "}" ∷ []) mid
closed_after_only done methods m start here mid c b absent e = let s : Split done methods here = c.back methods e in only_after done s.tail methods m here mid b absent s.whole s.ends

-- A method and a semicolon take bytes.
pub shorter : (m : Method) (here mid after : List ℕ) → BeginsMethod m here mid → Next (codes ";") mid after → length after < length here
shorter m here mid after b n =
    let x : 34 + length mid ≤ length here = method_takes m b.tokens here mid b.is_method b.reads in
    let y : 1 + length after ≤ length mid = next_takes (codes ";") mid after n in
    omega arith

-- The method that was read is the one that is held.
pub held : (name name' : List ℕ) (number : ℕ) (here mid : List ℕ) → name' ≡ name → BeginsMethod (record { name = name; number = number }) here mid → BeginsMethod (record { name = name'; number = number }) here mid
held name name' number here mid e b =
    let P : List ℕ → Type 0 = λ n. BeginsMethod (record { name = n; number = number }) here mid in
    subst P (sym e) b

pub pushed : (done new : List Method) (m : Method) (start here mid after : List ℕ) → new ≡ done ++ m ∷ [] → BeginsMethod m here mid → Next (codes ";") mid after → Collects done start here → Collects new start after
pushed done new m start here mid after e b n c = subst (λ ms. Collects ms start after) (sym e) (collects_more done m start here mid after b n c)

pub closed_pushed : (done new : List Method) (m : Method) (start here mid : List ℕ) → new ≡ done ++ m ∷ [] → Collects done start here → BeginsMethod m here mid → IsText (codes "}" ∷ []) mid → EndsMethods new start
closed_pushed done new m start here mid e c b t = subst (λ ms. EndsMethods ms start) (sym e) (closed_after done m start here mid c b t)

pub only_pushed : (done new methods : List Method) (m : Method) (start here mid : List ℕ) → new ≡ done ++ m ∷ [] → Collects done start here → BeginsMethod m here mid → ((r : List ℕ) → Next (codes ";") mid r → ⊥) → EndsMethods methods start → (methods ≡ new) × IsText (codes "}" ∷ []) mid
only_pushed done new methods m start here mid e c b absent ends =
    let o : (methods ≡ done ++ m ∷ []) × IsText (codes "}" ∷ []) mid = closed_after_only done methods m start here mid c b absent ends in
    (o.0 ∙ sym e, o.1)

-- One list at most ends there.
pub ends_once : (methods others : List Method) (s : List ℕ) → EndsMethods methods s → EndsMethods others s → methods ≡ others
ends_once [] [] s a b = refl
ends_once [] (y ∷ ys) s a b = let m : EndsSome y ys s = ends_some y ys s b in absurd (brace_no_method y s m.0 m.1 (ends_none s a))
ends_once (x ∷ xs) [] s a b = let m : EndsSome x xs s = ends_some x xs s a in absurd (brace_no_method x s m.0 m.1 (ends_none s b))
ends_once (x ∷ xs) (y ∷ ys) s a b =
    let m : EndsSome x xs s = ends_some x xs s a in
    let n : EndsSome y ys s = ends_some y ys s b in
    let same : (x ≡ y) × (m.0 ≡ n.0) = method_same x y s m.0 n.0 m.1 n.1 in
    let rest : xs ≡ ys = elim (m.2) [
      | inl last ↦ elim (n.2) [
        | inl last' ↦ last.0 ∙ sym last'.0
        | inr more ↦ absurd (brace_no_semicolon n.0 more.0 more.1 (subst (λ r. IsText (codes "}" ∷ []) r) same.1 last.1))
      ]
      | inr more ↦ elim (n.2) [
        | inl last ↦ absurd (brace_no_semicolon n.0 more.0 (subst (λ r. Next (codes ";") r more.0) same.1 more.1) last.1)
        | inr more' ↦ ends_once xs ys more.0 more.2 (subst (λ r. EndsMethods ys r) (next_same (codes ";") m.0 more'.0 more.0 refl (subst (λ r. Next (codes ";") r more'.0) (sym same.1) more'.1) more.1) more'.2)
      ]
    ] in
    cc
