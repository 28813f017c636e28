-- What the answers are, where the text is a source and where it is none.
use Rattle.std.proofs.Common.{◌≡◌, ◌≢◌, ℕ, ◌≤◌, List, [], ◌∷◌, ◌++◌, length, refl, ap, sym, ◌∙◌, subst, codes, inl, inr, ◌⊎◌, Result, Ok, Err, Bool, true, false, IsTrue}
use Rattle.std.specs.Result.{IfOk, IfErr, IsErrOf, IsErrAnd}
use Rattle.std.specs.List.{AllPairs}
use Rattle.query_source.specs.declared.query.Method.{Method}
use Rattle.query_source.specs.declared.query.SourceFault.{SourceFault}
use Rattle.query_source.specs.declared.query.SourceFault.TheVariants.{NotYet, Memory}
use Rattle.query_source.specs.Tokens.{Reads}
use Rattle.query_source.specs.Labels.{label_id}
use Rattle.query_source.specs.Source.{IsSource}
use Rattle.query_source.specs.Reading.{EndsMethods}
use Rattle.query_source.proofs.Reading.{reads_same}
use Rattle.query_source.proofs.LabelIds.{names_differ}

-- the answer is this list, or want of memory
abbrev Answers : Result (List Method) SourceFault → List Method → Type 0
Answers r methods = (r ≡ Ok methods) ⊎ (r ≡ Err Memory)

-- a list that was closed
pub found_when : (r : Result (List Method) SourceFault) (done : List Method) (T : Type 0) (P : List Method → Type 0) → IfOk r (λ same. (same ≡ done) × T) → (T → P done) → IfOk r P
found_when (Ok x) done T P h made = subst P (sym h.0) (made h.1)
found_when (Err x) done T P h made = tt

pub only_when : (r : Result (List Method) SourceFault) (done methods : List Method) (T : Type 0) → IfOk r (λ same. (same ≡ done) × T) → IfErr r (λ fault. (fault ≡ NotYet) × (T → ⊥)) → (methods ≡ done) × T → Answers r methods
only_when (Ok x) done methods T ok err h = inl (ap (λ ms. Ok ms) (ok.0 ∙ sym h.0))
only_when (Err x) done methods T ok err h = absurd (err.1 h.1)

-- a source behind its first two tokens
pub source_at : (methods : List Method) (text here : List ℕ) → Reads (codes "actor" ∷ codes "{" ∷ []) text here → IsSource methods text → EndsMethods methods here
source_at methods text here reads s =
    let r = s.spelled.1 in
    let same : r.2.0 ≡ here = reads_same (codes "actor" ∷ codes "{" ∷ []) text r.2.0 here (refl, (refl, tt)) (r.0, r.1, (r.2.0, r.2.1, refl)) reads in
    subst (λ h. EndsMethods methods h) same (record { tokens = s.tokens; are_methods = s.are_methods; spelled = (s.spelled.0, r.2.2, s.spelled.2) })

pub no_source : (methods : List Method) (text : List ℕ) → ((here : List ℕ) → Reads (codes "actor" ∷ codes "{" ∷ []) text here → ⊥) → IsSource methods text → ⊥
no_source methods text absent s = let r = s.spelled.1 in absent r.2.0 (r.0, r.1, (r.2.0, r.2.1, refl))

pub source_whole : (methods : List Method) (text here : List ℕ) → length text ≤ 4096 → Reads (codes "actor" ∷ codes "{" ∷ []) text here → EndsMethods methods here → AllPairs (λ m n. label_id m.name ≢ label_id n.name) methods → IsSource methods text
source_whole methods text here short reads e ids = record {
  short = short;
  tokens = e.tokens;
  are_methods = e.are_methods;
  spelled = (e.spelled.0, (reads.0, reads.1, (reads.2.0, reads.2.1, subst (λ h. Reads (e.tokens ++ codes "}" ∷ []) h e.spelled.0) (sym reads.2.2) e.spelled.1)), e.spelled.2);
  names_differ = names_differ methods ids;
  ids_differ = ids;
}

-- an answer that is the one list there is, or want of memory, is not NotYet
pub not_yet_never : (r : Result (List Method) SourceFault) (methods : List Method) → Answers r methods → IsErrOf r NotYet → ⊥
not_yet_never r methods (inl e) f = let g : Ok methods ≡ Err NotYet = sym e ∙ f in cc
not_yet_never r methods (inr e) f = let g : Err Memory ≡ Err NotYet = sym e ∙ f in cc

-- a fault that is passed on
pub passed_on : (r : Result (List Method) SourceFault) (fault : SourceFault) (methods : List Method) → IsErrAnd r (λ e. e ≡ fault) → Answers (Err fault) methods → Answers r methods
passed_on r fault methods passed (inl e) = absurd (cc)
passed_on (Ok x) fault methods passed (inr e) = absurd passed
passed_on (Err x) fault methods passed (inr e) = inr (ap (λ f. Err f) passed ∙ e)

abbrev pub DistinctIds : List Method → Type 0
DistinctIds methods = AllPairs (λ m n. label_id m.name ≢ label_id n.name) methods

-- a list that was found, with two ids that are equal
pub twins : (found methods slice : List Method) (text : List ℕ) (b : Bool) → slice ≡ found → (DistinctIds slice → IsTrue b) → b ≡ false → Answers (Ok found) methods → IsSource methods text → ⊥
twins found methods slice text b e tells no_twins (inr o) s = absurd (cc)
twins found methods slice text b e tells no_twins (inl o) s =
    let same : found ≡ methods = cc in
    let t : b ≡ true = tells (subst (λ ms. DistinctIds ms) (sym (e ∙ same)) s.ids_differ) in
    cc
