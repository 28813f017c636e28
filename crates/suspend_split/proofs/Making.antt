-- How code is made in steps.
use Rattle.std.proofs.Common.{◌≡◌, ℕ, suc, ◌≤◌, refl, sym, ap, ◌∙◌, List, [], ◌∷◌, ◌++◌, length, arith}
use Rattle.std.proofs.lemmas.List.{append_assoc, append-nil, length-append}
use Rattle.core_ir.specs.declared.code.Operand.{Operand}
use Rattle.core_ir.specs.declared.scopes.Outermost.{Outermost}
use Rattle.core_ir.specs.CodeView.{Names}
use Rattle.core_ir.specs.ScopeNames.{names_at, outermost_names}
use Rattle.core_ir.proofs.Scoping.{names_stay, names_next}
use Rattle.core_laws.specs.Split.{Emitted, emitted}
use Rattle.suspend_split.specs.declared.draft.Draft.{Draft}
use Rattle.suspend_split.specs.declared.draft.Segments.{Segments as DraftSegments}
use Rattle.suspend_split.specs.declared.draft.State.{State}
use Rattle.suspend_split.specs.Drafts.{draft_code, segments_code}
use Rattle.suspend_split.specs.Makes.{Agree, Grows, Making, Makes}

-- ---- scopes

pub grows_not : (a : List (List Operand)) → Grows a a
grows_not a = record { more = []; is = sym (append-nil a) }

pub grows_then : (a b c : List (List Operand)) → Grows a b → Grows b c → Grows a c
grows_then a b c g h = record { more = g.more ++ h.more; is = h.is ∙ ap (λ x. x ++ h.more) g.is ∙ append_assoc a g.more h.more }

pub grows_by : (a b : List (List Operand)) (x : List Operand) → b ≡ a ++ x ∷ [] → Grows a b
grows_by a b x e = record { more = x ∷ []; is = e }

pub grows_same : (a b : List (List Operand)) → b ≡ a → Grows a b
grows_same a b e = record { more = []; is = e ∙ sym (append-nil a) }

pub grows_length : (a b : List (List Operand)) → Grows a b → length a ≤ length b
grows_length a b g = let e = ap length g.is in let k = length-append a g.more in omega (arith, e, k)

pub within : (a b : List (List Operand)) (n : ℕ) → Grows a b → n ≤ length a → n ≤ length b
within a b n g l = let k = grows_length a b g in omega (arith, k, l)

pub agree_before : (o : Outermost) (a b : List (List Operand)) (names : Names) → Grows a b → Agree o b names → Agree o a names
agree_before o a b names g h n l =
    h n (within a b n g l) ∙ ap (λ xs. xs ++ outermost_names o) (ap (λ all. names_at all n) g.is ∙ names_stay a g.more n l)

-- a scope that was added
pub agree_added : (o : Outermost) (a b : List (List Operand)) (names : Names) (x : Operand) (outer number : ℕ) → b ≡ a ++ (x ∷ names_at a outer) ∷ [] → number ≡ length b → outer ≤ length a → Agree o b names
    → names number ≡ x ∷ names outer
agree_added o a b names x outer number e n l h =
    let k = ap length e in let s = length-append a ((x ∷ names_at a outer) ∷ []) in
    let is : number ≡ suc (length a) = omega (arith, k, s, n) in
    h number (omega (arith, n))
    ∙ ap (λ xs. xs ++ outermost_names o) (ap (λ m. names_at b m) is ∙ ap (λ all. names_at all (suc (length a))) e ∙ names_next a (x ∷ names_at a outer))
    ∙ ap (λ xs. x ∷ xs) (sym (agree_before o a b names (grows_by a b _ e) h outer l))

-- ---- steps

module _ (o : Outermost) where
  pub makes_as : (old new : State) (f g : Making) → Makes o old new f
      → ((names : Names) → Agree o new.scopes names → f names old.around (draft_code names old.draft) (segments_code names old.segments.list.items) ≡ g names old.around (draft_code names old.draft) (segments_code names old.segments.list.items))
      → Makes o old new g
  makes_as old new f g m e = record { around = m.around; scopes = m.scopes; makes = λ names ok. m.makes names ok ∙ e names ok }

  pub makes_then : (a b c : State) (f g : Making) → Makes o a b f → Makes o b c g → Makes o a c (λ names ls k segments. let r = f names ls k segments in g names ls r.code r.segments)
  makes_then a b c f g m n = record {
    around = n.around ∙ m.around;
    scopes = grows_then a.scopes b.scopes c.scopes m.scopes n.scopes;
    makes = λ names ok.
        n.makes names ok ∙ ap (λ ls. g names ls (draft_code names b.draft) (segments_code names b.segments.list.items)) m.around
        ∙ ap (λ (r : Emitted). g names a.around r.code r.segments) (m.makes names (agree_before o b.scopes c.scopes names n.scopes ok));
  }

  pub makes_nothing : (a : State) → Makes o a a (λ names ls c segments. emitted c segments)
  makes_nothing a = record { around = refl; scopes = grows_not a.scopes; makes = λ names ok. refl }

  -- another draft alone
  pub makes_draft : (a : State) (d : Draft) (g : Making)
      → ((names : Names) → Agree o a.scopes names → emitted (draft_code names d) (segments_code names a.segments.list.items) ≡ g names a.around (draft_code names a.draft) (segments_code names a.segments.list.items))
      → Makes o a (record { draft = d; segments = a.segments; scopes = a.scopes; around = a.around }) g
  makes_draft a d g e = record { around = refl; scopes = grows_not a.scopes; makes = e }

  -- further scopes alone
  pub scopes_first : (a b c : State) (f : Making) → b.draft ≡ a.draft → b.segments ≡ a.segments → b.around ≡ a.around → Grows a.scopes b.scopes → Makes o b c f → Makes o a c f
  scopes_first a b c f d s r g m = record {
    around = m.around ∙ r;
    scopes = grows_then a.scopes b.scopes c.scopes g m.scopes;
    makes = λ names ok. m.makes names ok ∙ ap (λ ls. f names ls (draft_code names b.draft) (segments_code names b.segments.list.items)) r
        ∙ ap (λ (d : Draft). f names a.around (draft_code names d) (segments_code names b.segments.list.items)) d ∙ ap (λ (s : DraftSegments). f names a.around (draft_code names a.draft) (segments_code names s.list.items)) s;
  }
