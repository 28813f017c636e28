-- The steps of splitting: constructs, whole or cut.
use Rattle.std.proofs.Common.{◌≡◌, ℕ, suc, ◌+◌, ◌≤◌, refl, sym, ap, ◌∙◌, Bool, true, false, cond, ◌||◌, List, [], ◌∷◌, ◌++◌, length, set, Option, Some, None, arith}
use Rattle.std.proofs.lemmas.List.{length-map, map-set, map-append}
use Rattle.core_ir.specs.declared.code.Code.{Code as CodeTree}
use Rattle.core_ir.specs.declared.code.Exit.{Exit}
use Rattle.core_ir.specs.declared.code.Exit.TheVariants as exit
use Rattle.core_ir.specs.declared.code.Handler.{Handler}
use Rattle.core_ir.specs.declared.code.Operand.{Operand}
use Rattle.core_ir.specs.declared.code.Operand.TheVariants.{Slot}
use Rattle.core_ir.specs.declared.primitive.Primitive.{Primitive}
use Rattle.core_ir.specs.declared.primitive.Constructor.{Constructor}
use Rattle.core_ir.specs.declared.scopes.Outermost.{Outermost}
use Rattle.core_ir.specs.Expressions as tree
use Rattle.core_ir.specs.Expressions.{Exp}
use Rattle.core_ir.specs.Code.{Code, Stop, If, Match, Label, Branch, Leave, Wait}
use Rattle.core_ir.specs.CodeView.{Names, code_of, exit_code}
use Rattle.core_ir.specs.ScopeNames.{names_at}
use Rattle.core_laws.specs.Around.{Kind, Other, HandlerHere, HandlerAt, handler}
use Rattle.core_laws.specs.Slots.{first, slot}
use Rattle.core_laws.specs.Split.{Emitted, Segments, emitted, joint, looping, looped, catching, enclosed, awaits, split_exp, split_goal}
use Rattle.suspend_split.specs.declared.draft.Draft.{Draft}
use Rattle.suspend_split.specs.declared.draft.Segments.{Segments as DraftSegments}
use Rattle.suspend_split.specs.declared.draft.State.{State}
use Rattle.suspend_split.specs.Drafts.{draft_code, segments_code, segment_code}
use Rattle.suspend_split.specs.Kinds.{inner}
use Rattle.suspend_split.specs.Makes.{Grows, Making, Makes, MakesAside, MakesInside, Begins, size_of}
use Rattle.suspend_split.proofs.Making.{agree_before, agree_added, grows_same, grows_then, makes_as, scopes_first}

three : (f : List Kind → Code → Segments → Emitted) (l m : List Kind) (c d : Code) (s t : Segments) → l ≡ m → c ≡ d → s ≡ t → f l c s ≡ f m d t
three f l m c d s t a b e = ap (λ l. f l c s) a ∙ ap (λ c. f m c s) b ∙ ap (λ s. f m d s) e

joint_left : (cut : Bool) (x ls : List Kind) (c : Code) (g : Segments) → x ≡ (joint cut ls c g).around → cond cut x (inner x) ≡ ls
joint_left true x ls c g e = e
joint_left false x ls c g e = ap inner e

module _ (sizes_list : List ℕ) (o : Outermost) where
  abbrev sizes : ℕ → ℕ
  sizes = size_of sizes_list

  abbrev One : Exp → Option ℕ → ℕ → ℕ → Making
  One e t h scope names ls c segments = split_exp sizes e t h (names scope) ls c segments

  -- ---- two branches

  abbrev Branches : Bool → (Names → Code → Code → Code → Code) → Exp → Exp → Option ℕ → ℕ → ℕ → ℕ → ℕ → Making
  Branches cut put ea eb t h k scope other names ls c segments =
      let q = joint cut ls c segments in
      let r = split_exp sizes ea t h (names scope) q.around q.next q.segments in
      let u = split_exp sizes eb t k (names other) q.around q.next r.segments in
      emitted (put names r.code u.code q.after) u.segments

  branches_make : (cut : Bool) (a b c d : State) (last : Draft) (way : Exit) (y n : CodeTree) (put : Names → Code → Code → Code → Code) (ea eb : Exp) (t : Option ℕ) (h k scope other : ℕ) → Begins cut a b way
      → MakesInside o b c way y (One ea t h scope) → MakesInside o c d way n (One eb t k other) → ((names : Names) → draft_code names last ≡ put names (code_of y names) (code_of n names) (draft_code names d.draft))
      → Makes o a (record { draft = last; segments = d.segments; scopes = d.scopes; around = cond cut d.around (inner d.around) }) (Branches cut put ea eb t h k scope other)
  branches_make cut a b c d last way y n put ea eb t h k scope other g f e p = record {
    around = joint_left cut d.around a.around Stop [] (e.around ∙ f.around ∙ g.around Stop []);
    scopes = grows_then a.scopes c.scopes d.scopes (grows_then a.scopes b.scopes c.scopes (grows_same a.scopes b.scopes g.scopes) f.scopes) e.scopes;
    makes = λ names ok.
        let q = joint cut a.around (draft_code names a.draft) (segments_code names a.segments.list.items) in
        let r = split_exp sizes ea t h (names scope) q.around q.next q.segments in
        let u = split_exp sizes eb t k (names other) q.around q.next r.segments in
        let around_b : b.around ≡ q.around = g.around (draft_code names a.draft) (segments_code names a.segments.list.items) in
        let r_is : emitted (code_of y names) (segments_code names c.segments.list.items) ≡ r =
        f.makes names (agree_before o c.scopes d.scopes names e.scopes ok) ∙ three (split_exp sizes ea t h (names scope)) b.around q.around (exit_code way) q.next (segments_code names b.segments.list.items) q.segments around_b (g.next names) (g.segments names) in
        let u_is : emitted (code_of n names) (segments_code names d.segments.list.items) ≡ u =
        e.makes names ok ∙ three (split_exp sizes eb t k (names other)) c.around q.around (exit_code way) q.next (segments_code names c.segments.list.items) r.segments (f.around ∙ around_b) (g.next names) (ap (λ (x : Emitted). x.segments) r_is) in
        ap (λ x. emitted x (segments_code names d.segments.list.items)) (p names)
        ∙ ap (λ (x : Draft). emitted (put names (code_of y names) (code_of n names) (draft_code names x)) (segments_code names d.segments.list.items)) (e.kept ∙ f.kept)
        ∙ ap (λ x. emitted (put names (code_of y names) (code_of n names) x) (segments_code names d.segments.list.items)) (g.after names)
        ∙ ap (λ (x : Emitted). emitted (put names x.code (code_of n names) q.after) (segments_code names d.segments.list.items)) r_is
        ∙ ap (λ (x : Emitted). emitted (put names r.code x.code q.after) x.segments) u_is;
  }

  pub choice_makes : (cut : Bool) (a b c d : State) (last : Draft) (way : Exit) (y n : CodeTree) (p : Primitive) (xs : List Operand) (ea eb : Exp) (t : Option ℕ) (h scope : ℕ) → cut ≡ (awaits ea || awaits eb) → Begins cut a b way
      → MakesInside o b c way y (One ea t h scope) → MakesInside o c d way n (One eb t h scope) → ((names : Names) → draft_code names last ≡ If p xs (code_of y names) (code_of n names) (draft_code names d.draft))
      → Makes o a (record { draft = last; segments = d.segments; scopes = d.scopes; around = cond cut d.around (inner d.around) }) (λ names ls c s. split_goal sizes (tree.Choose p ea eb) xs t h (names scope) ls c s)
  choice_makes cut a b c d last way y n p xs ea eb t h scope is g f e l =
      makes_as o a _ (Branches cut (λ names x y z. If p xs x y z) ea eb t h h scope scope) (λ names ls c s. split_goal sizes (tree.Choose p ea eb) xs t h (names scope) ls c s)
      (branches_make cut a b c d last way y n (λ names x y z. If p xs x y z) ea eb t h h scope scope g f e l)
      (λ names ok. ap (λ cut. Branches cut (λ names x y z. If p xs x y z) ea eb t h h scope scope names a.around (draft_code names a.draft) (segments_code names a.segments.list.items)) is)

  -- the value inside is the nearest name of the first branch
  pub match_makes : (cut : Bool) (z a b c d : State) (last : Draft) (way : Exit) (y n : CodeTree) (k : Constructor) (xs : List Operand) (ea eb : Exp) (t : Option ℕ) (h behind scope within : ℕ) → cut ≡ (awaits ea || awaits eb)
      → behind ≡ h + 1 → a.draft ≡ z.draft → a.segments ≡ z.segments → a.around ≡ z.around → a.scopes ≡ z.scopes ++ (Slot h ∷ names_at z.scopes scope) ∷ [] → within ≡ length a.scopes → scope ≤ length z.scopes → Begins cut a b way
      → MakesInside o b c way y (One ea t behind within) → MakesInside o c d way n (One eb t behind scope) → ((names : Names) → draft_code names last ≡ Match h k (first xs) (code_of y names) (code_of n names) (draft_code names d.draft))
      → Makes o z (record { draft = last; segments = d.segments; scopes = d.scopes; around = cond cut d.around (inner d.around) }) (λ names ls c s. split_goal sizes (tree.Match k ea eb) xs t h (names scope) ls c s)
  match_makes cut z a b c d last way y n k xs ea eb t h behind scope within is eb' dr sg ar sc wi l g f e p =
      makes_as o z new M (λ names ls c s. split_goal sizes (tree.Match k ea eb) xs t h (names scope) ls c s)
      (scopes_first o z a new M dr sg ar grow (branches_make cut a b c d last way y n put ea eb t behind behind within scope g f e p))
      (λ names ok. let ls = z.around in let x = draft_code names z.draft in let s = segments_code names z.segments.list.items in
      let inside : names within ≡ Slot h ∷ names scope = agree_added o z.scopes a.scopes names (Slot h) scope within sc wi l (agree_before o a.scopes d.scopes names (grows_then a.scopes c.scopes d.scopes (grows_then a.scopes b.scopes c.scopes (grows_same a.scopes b.scopes g.scopes) f.scopes) e.scopes) ok) in
      ap (λ m. M_at m (names within) (names scope) cut ls x s) (let w : behind ≡ suc h = omega (arith, eb') in w) ∙ ap (λ ns. M_at (suc h) ns (names scope) cut ls x s) inside ∙ ap (λ cut. M_at (suc h) (Slot h ∷ names scope) (names scope) cut ls x s) is)
    where
      put : Names → Code → Code → Code → Code
      put names x y z = Match h k (first xs) x y z

      M : Making
      M = Branches cut put ea eb t behind behind within scope

      M_at : ℕ → List Operand → List Operand → Bool → List Kind → Code → Segments → Emitted
      M_at m is ns cut ls c segments =
          let q = joint cut ls c segments in
          let r = split_exp sizes ea t m is q.around q.next q.segments in
          let u = split_exp sizes eb t m ns q.around q.next r.segments in
          emitted (Match h k (first xs) r.code u.code q.after) u.segments

      new : State
      new = record { draft = last; segments = d.segments; scopes = d.scopes; around = cond cut d.around (inner d.around) }

      grow : Grows z.scopes a.scopes
      grow = record { more = (Slot h ∷ names_at z.scopes scope) ∷ []; is = sc }

  -- ---- loops that are cut

  pub loop_makes : (a c : State) (added filled : DraftSegments) (last : Draft) (b : CodeTree) (e : Exp) (t : Option ℕ) (h j scope : ℕ) → awaits e ≡ true → j ≡ length a.segments.list.items → added.list.items ≡ a.segments.list.items ++ None ∷ []
      → MakesInside o (record { draft = a.draft; segments = added; scopes = a.scopes; around = a.around }) c (exit.Leave j) b (One e None h scope) → filled.list.items ≡ set c.segments.list.items j (Some b)
      → ((names : Names) → draft_code names last ≡ Leave j) → Makes o a (record { draft = last; segments = filled; scopes = c.scopes; around = c.around }) (One (tree.Loop e) t h scope)
  loop_makes a c added filled last b e t h j scope is n ad f fi l = record {
    around = f.around;
    scopes = f.scopes;
    makes = λ names ok.
        let s = segments_code names a.segments.list.items in
        let n' : j ≡ length s = n ∙ sym (length-map a.segments.list.items (segment_code names)) in
        let r = split_exp sizes e None h (names scope) a.around (Leave (length s)) (s ++ None ∷ []) in
        let r_is : emitted (code_of b names) (segments_code names c.segments.list.items) ≡ r =
        f.makes names ok ∙ three (split_exp sizes e None h (names scope)) a.around a.around (Leave j) (Leave (length s)) (segments_code names added.list.items) (s ++ None ∷ []) refl (ap Leave n')
        (ap (segments_code names) ad ∙ map-append (segment_code names) a.segments.list.items (None ∷ [])) in
        ap (λ x. emitted x (segments_code names filled.list.items)) (l names) ∙ ap (λ x. emitted (Leave j) (segments_code names x)) fi
        ∙ ap (λ x. emitted (Leave j) x) (map-set (segment_code names) c.segments.list.items j (Some b))
        ∙ ap (λ (x : Emitted). emitted (Leave j) (set x.segments j (Some x.code))) r_is
        ∙ ap (λ j. emitted (Leave j) (set r.segments j (Some r.code))) n'
        ∙ sym (ap (λ cut. let q = looping cut a.around s in let r = split_exp sizes e None h (names scope) q.around q.next q.segments in looped cut r.code (draft_code names a.draft) (length s) r.segments) is);
  }

  -- ---- handlers

  pub caught_makes : (z a b c d : State) (with_caught : DraftSegments) (goes : Draft) (caught : CodeTree) (ea eb : Exp) (t : Option ℕ) (h behind scope within j i : ℕ) → (awaits ea || awaits eb) ≡ true → behind ≡ h + 1
      → a.draft ≡ z.draft → a.segments ≡ z.segments → a.around ≡ z.around → a.scopes ≡ z.scopes ++ (Slot h ∷ names_at z.scopes scope) ∷ [] → within ≡ length a.scopes → scope ≤ length z.scopes
      → ((names : Names) → segments_code names b.segments.list.items ≡ segments_code names a.segments.list.items ++ Some (draft_code names a.draft) ∷ []) → j ≡ length a.segments.list.items → b.scopes ≡ a.scopes → b.around ≡ a.around
      → MakesInside o b c (exit.Leave j) caught (One eb t behind within) → with_caught.list.items ≡ c.segments.list.items ++ Some caught ∷ [] → i ≡ length c.segments.list.items → ((names : Names) → draft_code names goes ≡ Leave j)
      → Makes o (record { draft = goes; segments = with_caught; scopes = c.scopes; around = HandlerAt i h ∷ c.around }) d (One ea t behind scope)
      → Makes o z (record { draft = d.draft; segments = d.segments; scopes = d.scopes; around = inner d.around }) (One (tree.Try ea eb) t h scope)
  caught_makes z a b c d with_caught goes caught ea eb t h behind scope within j i is eb' dr sg ar sc wi l bs jn bsc bar f wc iw go g = record {
    around = ap inner g.around ∙ f.around ∙ bar ∙ ar;
    scopes = grows_then z.scopes a.scopes d.scopes (record { more = (Slot h ∷ names_at z.scopes scope) ∷ []; is = sc }) grow;
    makes = λ names ok.
        let k = draft_code names z.draft in let s = segments_code names z.segments.list.items in let ls = z.around in let ns = names scope in
        let inside : names within ≡ Slot h ∷ ns = agree_added o z.scopes a.scopes names (Slot h) scope within sc wi l (agree_before o a.scopes d.scopes names grow ok) in
        let more : segments_code names b.segments.list.items ≡ s ++ Some k ∷ [] =
        bs names ∙ ap (λ (x : DraftSegments). segments_code names x.list.items ++ Some (draft_code names a.draft) ∷ []) sg ∙ ap (λ (x : Draft). s ++ Some (draft_code names x) ∷ []) dr in
        let n' : j ≡ length s = jn ∙ ap (λ (x : DraftSegments). length x.list.items) sg ∙ sym (length-map z.segments.list.items (segment_code names)) in
        let r = split_exp sizes eb t (suc h) (Slot h ∷ ns) ls (Leave (length s)) (s ++ Some k ∷ []) in
        let r_is : emitted (code_of caught names) (segments_code names c.segments.list.items) ≡ r =
        f.makes names (agree_before o c.scopes d.scopes names g.scopes ok)
        ∙ three (split_exp sizes eb t behind (names within)) b.around ls (Leave j) (Leave (length s)) (segments_code names b.segments.list.items) (s ++ Some k ∷ []) (bar ∙ ar) (ap Leave n') more
        ∙ ap (λ m. split_exp sizes eb t m (names within) ls (Leave (length s)) (s ++ Some k ∷ [])) (let w : behind ≡ suc h = omega (arith, eb') in w)
        ∙ ap (λ ns. split_exp sizes eb t (suc h) ns ls (Leave (length s)) (s ++ Some k ∷ [])) inside in
        let i' : i ≡ length r.segments = iw ∙ sym (length-map c.segments.list.items (segment_code names)) ∙ ap (λ (x : Emitted). length x.segments) r_is in
        let u = split_exp sizes ea t (suc h) ns (HandlerAt (length r.segments) h ∷ ls) (Leave (length s)) (r.segments ++ Some r.code ∷ []) in
        let u_is : emitted (draft_code names d.draft) (segments_code names d.segments.list.items) ≡ u =
        g.makes names ok
        ∙ three (split_exp sizes ea t behind ns) (HandlerAt i h ∷ c.around) (HandlerAt (length r.segments) h ∷ ls) (draft_code names goes) (Leave (length s)) (segments_code names with_caught.list.items) (r.segments ++ Some r.code ∷ [])
        (ap (λ i. HandlerAt i h ∷ c.around) i' ∙ ap (λ x. HandlerAt (length r.segments) h ∷ x) (f.around ∙ bar ∙ ar)) (go names ∙ ap Leave n')
        (ap (segments_code names) wc ∙ map-append (segment_code names) c.segments.list.items (Some caught ∷ []) ∙ ap (λ (x : Emitted). x.segments ++ Some x.code ∷ []) r_is)
        ∙ ap (λ m. split_exp sizes ea t m ns (HandlerAt (length r.segments) h ∷ ls) (Leave (length s)) (r.segments ++ Some r.code ∷ [])) (let w : behind ≡ suc h = omega (arith, eb') in w) in
        u_is ∙ sym (ap (λ cut. try_of cut ns ls k s) is);
  }
    where
      grow : Grows a.scopes d.scopes
      grow = grows_then a.scopes c.scopes d.scopes (grows_then a.scopes b.scopes c.scopes (grows_same a.scopes b.scopes bsc) f.scopes) g.scopes

      try_of : Bool → List Operand → List Kind → Code → Segments → Emitted
      try_of cut ns ls c segs =
          let q = joint cut ls c segs in
          let r = split_exp sizes eb t (suc h) (Slot h ∷ ns) q.around q.next q.segments in
          let p = catching cut h ls q.next r.code r.segments in
          let u = split_exp sizes ea t (suc h) ns p.around p.next p.segments in
          emitted (enclosed cut (enclosed cut u.code r.code) c) u.segments

  pub try_makes : (z a c d : State) (caught : Draft) (last : Draft) (body : CodeTree) (ea eb : Exp) (t : Option ℕ) (h behind scope within : ℕ) → (awaits ea || awaits eb) ≡ false → behind ≡ h + 1
      → a.draft ≡ z.draft → a.segments ≡ z.segments → a.around ≡ Other ∷ z.around → a.scopes ≡ z.scopes ++ (Slot h ∷ names_at z.scopes scope) ∷ [] → within ≡ length a.scopes → scope ≤ length z.scopes
      → MakesAside o a c exit.Stop caught (One eb t behind within) → MakesInside o (record { draft = c.draft; segments = c.segments; scopes = c.scopes; around = HandlerHere h ∷ c.around }) d (exit.Branch 1) body (One ea t behind scope)
      → ((names : Names) → draft_code names last ≡ Label (Label (code_of body names) (draft_code names caught)) (draft_code names d.draft))
      → Makes o z (record { draft = last; segments = d.segments; scopes = d.scopes; around = inner (inner d.around) }) (One (tree.Try ea eb) t h scope)
  try_makes z a c d caught last body ea eb t h behind scope within is eb' dr sg ar sc wi l f g la = record {
    around = ap (λ x. inner (inner x)) g.around ∙ ap inner f.around ∙ ap inner ar;
    scopes = grows_then z.scopes a.scopes d.scopes (record { more = (Slot h ∷ names_at z.scopes scope) ∷ []; is = sc }) (grows_then a.scopes c.scopes d.scopes f.scopes g.scopes);
    makes = λ names ok.
        let k = draft_code names z.draft in let s = segments_code names z.segments.list.items in let ls = z.around in let ns = names scope in
        let inside : names within ≡ Slot h ∷ ns = agree_added o z.scopes a.scopes names (Slot h) scope within sc wi l (agree_before o a.scopes d.scopes names (grows_then a.scopes c.scopes d.scopes f.scopes g.scopes) ok) in
        let r = split_exp sizes eb t (suc h) (Slot h ∷ ns) (Other ∷ ls) Stop s in
        let r_is : emitted (draft_code names caught) (segments_code names c.segments.list.items) ≡ r =
        f.makes names (agree_before o c.scopes d.scopes names g.scopes ok)
        ∙ three (split_exp sizes eb t behind (names within)) a.around (Other ∷ ls) Stop Stop (segments_code names a.segments.list.items) s ar refl (ap (λ (x : DraftSegments). segments_code names x.list.items) sg)
        ∙ ap (λ m. split_exp sizes eb t m (names within) (Other ∷ ls) Stop s) (let w : behind ≡ suc h = omega (arith, eb') in w)
        ∙ ap (λ ns. split_exp sizes eb t (suc h) ns (Other ∷ ls) Stop s) inside in
        let u = split_exp sizes ea t (suc h) ns (HandlerHere h ∷ (Other ∷ ls)) (Branch 1) r.segments in
        let u_is : emitted (code_of body names) (segments_code names d.segments.list.items) ≡ u =
        g.makes names ok
        ∙ three (split_exp sizes ea t behind ns) (HandlerHere h ∷ c.around) (HandlerHere h ∷ (Other ∷ ls)) (Branch 1) (Branch 1) (segments_code names c.segments.list.items) r.segments
        (ap (λ x. HandlerHere h ∷ x) (f.around ∙ ar)) refl (ap (λ (x : Emitted). x.segments) r_is)
        ∙ ap (λ m. split_exp sizes ea t m ns (HandlerHere h ∷ (Other ∷ ls)) (Branch 1) r.segments) (let w : behind ≡ suc h = omega (arith, eb') in w) in
        ap (λ x. emitted x (segments_code names d.segments.list.items)) (la names)
        ∙ ap (λ (x : Draft). emitted (Label (Label (code_of body names) (draft_code names caught)) (draft_code names x)) (segments_code names d.segments.list.items)) (g.kept ∙ f.kept ∙ dr)
        ∙ ap (λ (x : Emitted). emitted (Label (Label (code_of body names) x.code) k) (segments_code names d.segments.list.items)) r_is
        ∙ ap (λ (x : Emitted). emitted (Label (Label x.code r.code) k) x.segments) u_is
        ∙ sym (ap (λ cut. try_of cut ns ls k s) is);
  }
    where
      try_of : Bool → List Operand → List Kind → Code → Segments → Emitted
      try_of cut ns ls c segs =
          let q = joint cut ls c segs in
          let r = split_exp sizes eb t (suc h) (Slot h ∷ ns) q.around q.next q.segments in
          let p = catching cut h ls q.next r.code r.segments in
          let u = split_exp sizes ea t (suc h) ns p.around p.next p.segments in
          emitted (enclosed cut (enclosed cut u.code r.code) c) u.segments

  -- ---- awaits

  pub await_makes : (z b : State) (d : Draft) (xs : List Operand) (t : Option ℕ) (h scope u j : ℕ) (x : Operand) (hd : Option Handler) → u ≡ slot t h → x ≡ first xs → hd ≡ handler z.around
      → ((names : Names) → segments_code names b.segments.list.items ≡ segments_code names z.segments.list.items ++ Some (draft_code names z.draft) ∷ []) → j ≡ length z.segments.list.items → b.scopes ≡ z.scopes → b.around ≡ z.around
      → ((names : Names) → draft_code names d ≡ Wait u x hd j) → Makes o z (record { draft = d; segments = b.segments; scopes = b.scopes; around = b.around }) (λ names ls c s. split_goal sizes tree.Await xs t h (names scope) ls c s)
  await_makes z b d xs t h scope u j x hd ue xe he bs jn bsc bar de = record {
    around = bar;
    scopes = grows_same z.scopes b.scopes bsc;
    makes = λ names ok.
        let s = segments_code names z.segments.list.items in
        ap (λ c. emitted c (segments_code names b.segments.list.items)) (de names) ∙ ap (emitted (Wait u x hd j)) (bs names)
        ∙ ap (λ u. emitted (Wait u x hd j) (s ++ Some (draft_code names z.draft) ∷ [])) ue ∙ ap (λ x. emitted (Wait (slot t h) x hd j) (s ++ Some (draft_code names z.draft) ∷ [])) xe
        ∙ ap (λ hd. emitted (Wait (slot t h) (first xs) hd j) (s ++ Some (draft_code names z.draft) ∷ [])) he
        ∙ ap (λ j. emitted (Wait (slot t h) (first xs) (handler z.around) j) (s ++ Some (draft_code names z.draft) ∷ [])) (jn ∙ sym (length-map z.segments.list.items (segment_code names)));
  }
