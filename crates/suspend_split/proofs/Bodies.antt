-- Bodies, and programs of them.
use Rattle.std.proofs.Common.{◌≡◌, ℕ, suc, ◌+◌, refl, sym, ap, ◌∙◌, List, [], ◌∷◌, ◌++◌, map, reverse, set, Option, Some, None, arith}
use Rattle.std.proofs.lemmas.List.{append_assoc, map-append, map-set, reverse-append}
use Rattle.core_ir.specs.declared.code.Code.{Code as CodeTree}
use Rattle.core_ir.specs.declared.code.Operand.{Operand}
use Rattle.core_ir.specs.declared.expression.CoreBody.{CoreBody}
use Rattle.core_ir.specs.declared.scopes.Outermost.{Outermost}
use Rattle.core_ir.specs.Code as code
use Rattle.core_ir.specs.Code.{Code, Return}
use Rattle.core_ir.specs.CodeView.{Names, code_body, code_of}
use Rattle.core_ir.specs.FormedExpressions.{width}
use Rattle.core_ir.specs.ScopeNames.{outermost_names, scope_names}
use Rattle.core_ir.specs.View.{core_body, expression}
use Rattle.core_laws.specs.Slots.{operand, place}
use Rattle.core_laws.specs.Split.{Emitted, emitted, code_or_stop, split_body, split_exp}
use Rattle.suspend_split.specs.declared.draft.Segments.{Segments as DraftSegments}
use Rattle.suspend_split.specs.declared.draft.State.{State}
use Rattle.suspend_split.specs.Drafts.{draft_code, segment_code, segments_code}
use Rattle.suspend_split.specs.Makes.{Makes, size_of}

pub filled_more : (names : Names) (rest : List (Option CodeTree)) (x : Option CodeTree) (made : List CodeTree) (y : CodeTree) → code_of y names ≡ code_or_stop (segment_code names x)
    → map code_or_stop (map (segment_code names) rest) ++ map (λ c. code_of c names) (reverse (made ++ y ∷ [])) ≡ map code_or_stop (map (segment_code names) (rest ++ x ∷ [])) ++ map (λ c. code_of c names) (reverse made)
filled_more names rest x made y e =
    ap (λ ys. map code_or_stop (map (segment_code names) rest) ++ map (λ c. code_of c names) ys) (reverse-append made (y ∷ []))
    ∙ ap (λ z. map code_or_stop (map (segment_code names) rest) ++ (z ∷ map (λ c. code_of c names) (reverse made))) e
    ∙ sym (append_assoc (map code_or_stop (map (segment_code names) rest)) (code_or_stop (segment_code names x) ∷ []) (map (λ c. code_of c names) (reverse made)))
    ∙ ap (λ ys. ys ++ map (λ c. code_of c names) (reverse made)) (sym (ap (map code_or_stop) (map-append (segment_code names) rest (x ∷ [])) ∙ map-append code_or_stop (map (segment_code names) rest) (segment_code names x ∷ [])))

pub body_is : (sizes : List ℕ) (functions sees : ℕ) (b : CoreBody) (a z : State) (filled : DraftSegments) (whole : CodeTree) (made : List CodeTree) (x : Operand) (t : Option ℕ) (free first slots : ℕ)
    → ((names : Names) → draft_code names a.draft ≡ Return x) → a.segments.list.items ≡ None ∷ [] → a.scopes ≡ [] → a.around ≡ []
    → x ≡ operand (scope_names a.scopes (record { parameters = b.parameters; functions = functions; sees = sees }) 0) (expression b.expression) b.parameters
    → t ≡ place (expression b.expression) b.parameters → free ≡ b.parameters + 1
    → Makes (record { parameters = b.parameters; functions = functions; sees = sees }) a z (λ names ls c segments. split_exp (size_of sizes) (expression b.expression) t free (names 0) ls c segments)
    → first ≡ 0 → filled.list.items ≡ set z.segments.list.items first (Some whole) → ((names : Names) → code_of whole names ≡ draft_code names z.draft)
    → ((names : Names) → map (λ c. code_of c names) made ≡ map code_or_stop (map (segment_code names) filled.list.items)) → slots ≡ suc (b.parameters + width (size_of sizes) (expression b.expression))
    → code_body functions sees (record { parameters = b.parameters; slots = slots; nodes = b.nodes; scopes = z.scopes; segments = made }) ≡ split_body (size_of sizes) functions sees (core_body b)
body_is sizes functions sees b a z filled whole made x t free first slots dr sg sc ar xe te fe m fi se we me sl =
    ap (λ s. made_body s (map (λ c. code_of c names) made)) sl ∙ ap (made_body (suc (b.parameters + width (size_of sizes) (expression b.expression)))) segments_are
  where
    o : Outermost
    o = record { parameters = b.parameters; functions = functions; sees = sees }

    names : Names
    names = scope_names z.scopes o

    made_body : ℕ → List Code → code.Body
    made_body s cs = record { parameters = b.parameters; slots = s; nodes = b.nodes; segments = cs }

    N : List Operand
    N = outermost_names o

    r : Emitted
    r = split_exp (size_of sizes) (expression b.expression) (place (expression b.expression) b.parameters) (suc b.parameters) N [] (Return (operand N (expression b.expression) b.parameters)) (None ∷ [])

    r_is : emitted (draft_code names z.draft) (segments_code names z.segments.list.items) ≡ r
    r_is =
        m.makes names (λ n l. refl)
        ∙ ap (λ ls. split_exp (size_of sizes) (expression b.expression) t free N ls (draft_code names a.draft) (segments_code names a.segments.list.items)) ar
        ∙ ap (λ c. split_exp (size_of sizes) (expression b.expression) t free N [] c (segments_code names a.segments.list.items)) (dr names ∙ ap Return (xe ∙ ap (λ all. operand (scope_names all o 0) (expression b.expression) b.parameters) sc))
        ∙ ap (λ s. split_exp (size_of sizes) (expression b.expression) t free N [] (Return (operand N (expression b.expression) b.parameters)) (segments_code names s)) sg
        ∙ ap (λ t. split_exp (size_of sizes) (expression b.expression) t free N [] (Return (operand N (expression b.expression) b.parameters)) (None ∷ [])) te
        ∙ ap (λ f. split_exp (size_of sizes) (expression b.expression) (place (expression b.expression) b.parameters) f N [] (Return (operand N (expression b.expression) b.parameters)) (None ∷ [])) (let w : free ≡ suc b.parameters = omega (arith, fe) in w)

    wanted : List Code
    wanted = map code_or_stop (set r.segments 0 (Some r.code))

    segments_are : map (λ c. code_of c names) made ≡ wanted
    segments_are =
        me names ∙ ap (λ s. map code_or_stop (map (segment_code names) s)) (se ∙ ap (λ i. set z.segments.list.items i (Some whole)) fi)
        ∙ ap (map code_or_stop) (map-set (segment_code names) z.segments.list.items 0 (Some whole) ∙ ap (λ c. set (segments_code names z.segments.list.items) 0 (Some c)) (we names))
        ∙ ap (λ (y : Emitted). map code_or_stop (set y.segments 0 (Some y.code))) r_is
