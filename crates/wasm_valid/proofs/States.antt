-- What the state of a check stands for.
use Rattle.std.proofs.Common.{◌≡◌, ℕ, List, [], ◌∷◌, map, slice_get, Option, Some, None, refl, sym, ap, ◌∙◌, true}
use Rattle.std.specs.Prelude.{⊤}
use Rattle.std.specs.Option.{option_map}
use Rattle.std.proofs.lemmas.Option.{slice_get-map}
use Rattle.wasm_tree.specs.declared.rule.Rule.{Rule}
use Rattle.wasm_tree.specs.declared.rule.Rule.TheVariants as rule
use Rattle.wasm_tree.specs.declared.types.ValueType.{ValueType}
use Rattle.wasm_tree.specs.declared.module_parts.Module.{Module}
use Rattle.wasm_tree.specs.Rules.{Context, results_of}
use Rattle.wasm_valid.specs.declared.blocks.Opened.{Opened}
use Rattle.wasm_valid.specs.declared.blocks.Opener.{Opener}
use Rattle.wasm_valid.specs.declared.blocks.Opener.TheVariants as opener
use Rattle.wasm_valid.specs.declared.body.Table.{Table}
use Rattle.wasm_tree.specs.Exec.{same_kind}
use Rattle.wasm_valid.specs.Blocks.{label_by, labels}
use Rattle.wasm_valid.specs.Body.{same_result, agrees, may_end, is_if}
use Rattle.wasm_valid.proofs.Stacks.{Is, same_eq, same_refl}
use Rattle.wasm_valid.proofs.Runs.{Frame, frame, Place, Usual, Owes, EndsBy, IsIf, labels_of}

-- The frames of open blocks over these operands.
abbrev pub frames_of : List Opened → List (List ValueType) → List Frame
frames_of [] belows = []
frames_of (o ∷ blocks) [] = []
frames_of (o ∷ blocks) (b ∷ belows) = frame o.opener o.result b ∷ frames_of blocks belows

abbrev pub AreBelow : List Opened → List (List ValueType) → Type 0
AreBelow [] [] = ⊤
AreBelow [] (b ∷ belows) = ⊥
AreBelow (o ∷ blocks) [] = ⊥
AreBelow (o ∷ blocks) (b ∷ belows) = Is o.below b × AreBelow blocks belows

abbrev pub place_of : Option Table → List ValueType → Place
place_of None results = Usual
place_of (Some t) results = Owes t.owed results

-- What a body may use that has these locals and this result.
abbrev pub context : Module → List ValueType → Option ValueType → Context
context m locals result = record { within = m; locals = locals; labels = results_of result ∷ []; results = results_of result }

same_result_eq : (j k : Option ValueType) → same_result j k ≡ true → j ≡ k
same_result_eq None None e = refl
same_result_eq None (Some k) e = cc
same_result_eq (Some j) None e = cc
same_result_eq (Some j) (Some k) e = ap Some (same_eq j k e)

one_result : (j k : Option ValueType) → results_of j ≡ results_of k → same_result j k ≡ true
one_result None None e = refl
one_result None (Some k) e = cc
one_result (Some j) None e = cc
one_result (Some j) (Some k) e = let same : j ≡ k = cc in ap (same_kind j) (sym same) ∙ same_refl j

pub may_end_sound : (o : Opener) (kind : Option ValueType) → may_end o kind ≡ true → EndsBy o kind
may_end_sound opener.Block kind e = tt
may_end_sound opener.Loop kind e = tt
may_end_sound opener.If None e = refl
may_end_sound opener.If (Some kind) e = cc
may_end_sound opener.Else kind e = tt

pub may_end_complete : (o : Opener) (kind : Option ValueType) → EndsBy o kind → may_end o kind ≡ true
may_end_complete opener.Block kind h = refl
may_end_complete opener.Loop kind h = refl
may_end_complete opener.If None h = refl
may_end_complete opener.If (Some kind) h = cc
may_end_complete opener.Else kind h = refl

module _ (asked : Rule → Type 0) where
  abbrev pub Wants : Option (Option ValueType) → List ValueType → Type 0
  Wants None results = ⊤
  Wants (Some kind) results = asked rule.Operand → results ≡ results_of kind

  -- The labels that came take these results.
  abbrev pub Wanted : Option Table → List ValueType → Type 0
  Wanted None results = ⊤
  Wanted (Some t) results = Wants t.wanted results

  pub agreed : (w : Option (Option ValueType)) (kind : Option ValueType) (results : List ValueType) → agrees w kind ≡ true → (asked rule.Operand → results ≡ results_of kind) → Wants w results
  agreed None kind results e h = tt
  agreed (Some j) kind results e h = λ a. h a ∙ ap results_of (sym (same_result_eq j kind e))

  pub agrees_by : (w : Option (Option ValueType)) (kind : Option ValueType) (results : List ValueType) → Wants w results → asked rule.Operand → results_of kind ≡ results → agrees w kind ≡ true
  agrees_by None kind results wants a e = refl
  agrees_by (Some j) kind results wants a e = one_result j kind (sym (e ∙ wants a))

  module _ (m : Module) (locals : List ValueType) (result : Option ValueType) where
    pub if_sound : (o : Opener) → is_if o ≡ true → IsIf asked (context m locals result) o
    if_sound opener.Block e = cc
    if_sound opener.Loop e = cc
    if_sound opener.If e = tt
    if_sound opener.Else e = cc

    pub if_complete : (o : Opener) → IsIf asked (context m locals result) o → is_if o ≡ true
    if_complete opener.Block h = absurd h
    if_complete opener.Loop h = absurd h
    if_complete opener.If h = refl
    if_complete opener.Else h = absurd h

    labels_same : (blocks : List Opened) (belows : List (List ValueType)) → AreBelow blocks belows → labels_of asked (context m locals result) (frames_of blocks belows) ≡ map results_of (labels result blocks)
    labels_same [] [] h = refl
    labels_same [] (b ∷ belows) h = absurd h
    labels_same (o ∷ blocks) [] h = absurd h
    labels_same (o ∷ blocks) (b ∷ belows) h = ap (λ l. results_of (label_by o.opener o.result) ∷ l) (labels_same blocks belows h.1)

    pub label_is : (blocks : List Opened) (belows : List (List ValueType)) → AreBelow blocks belows → (l : ℕ)
        → slice_get (labels_of asked (context m locals result) (frames_of blocks belows)) l ≡ option_map results_of (slice_get (labels result blocks) l)
    label_is blocks belows h l = ap (λ ls. slice_get ls l) (labels_same blocks belows h) ∙ slice_get-map results_of (labels result blocks) l

    pub label_some : (blocks : List Opened) (belows : List (List ValueType)) → AreBelow blocks belows → (l : ℕ) (kind : Option ValueType) → slice_get (labels result blocks) l ≡ Some kind
        → slice_get (labels_of asked (context m locals result) (frames_of blocks belows)) l ≡ Some (results_of kind)
    label_some blocks belows h l kind e = label_is blocks belows h l ∙ ap (option_map results_of) e

    pub label_none : (blocks : List Opened) (belows : List (List ValueType)) → AreBelow blocks belows → (l : ℕ) → slice_get (labels result blocks) l ≡ None
        → slice_get (labels_of asked (context m locals result) (frames_of blocks belows)) l ≡ None
    label_none blocks belows h l e = label_is blocks belows h l ∙ ap (option_map results_of) e
