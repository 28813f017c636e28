-- Flat code that runs by the rules is that of a tree, which is typed.
use Rattle.std.proofs.Common.{◌≡◌, ℕ, zero, suc, List, [], ◌∷◌, ◌++◌, length, map, slice_get, Option, None, refl, sym, ap, ◌∙◌, subst, append_assoc, inl, inr, ◌⊎◌}
use Rattle.std.specs.List.{AllByRecursion}
use Rattle.wasm_tree.specs.declared.rule.Rule.{Rule}
use Rattle.wasm_tree.specs.declared.rule.Rule.TheVariants as rule
use Rattle.wasm_tree.specs.declared.types.ValueType.{ValueType}
use Rattle.wasm_tree.specs.declared.types.ValueType.TheVariants.{I32}
use Rattle.wasm_tree.specs.declared.op.Op.{Op}
use Rattle.wasm_tree.specs.declared.op.Op.TheVariants as op
use Rattle.wasm_tree.specs.Code.{Code, Stop, Then, Unreachable, Block, Loop, If, IfElse, Br, BrIf, BrTable, Return, Call, CallIndirect, flat}
use Rattle.wasm_tree.specs.Rules.{Context, IsFound, StartsWith, results_of}
use Rattle.wasm_tree.specs.Typing.{IsTarget, IsTyped}
use Rattle.wasm_valid.specs.declared.blocks.Opener.{Opener}
use Rattle.wasm_valid.specs.declared.blocks.Opener.TheVariants as opener
use Rattle.wasm_valid.proofs.Runs.{Frame, frame, Place, Usual, Owes, EndsBy, IsIf, labels_of, within, Runs}

module _ (asked : Rule → Type 0) (c : Context) where
  abbrev Rests : Type 1
  Rests = List Op → List ValueType → Type 0

  -- The end of a block, and what comes after it.
  abbrev Closed : Frame → Rests → List Op → Type 0
  Closed f Rest tail = (rest : List Op) × (tail ≡ op.End ∷ rest) × Rest rest (results_of f.result ++ f.below)

  abbrev TailBy : Opener → Frame → List Frame → Rests → List Op → Type 0
  TailBy opener.Block f frames Rest tail = Closed f Rest tail
  TailBy opener.Loop f frames Rest tail = Closed f Rest tail
  TailBy opener.If f frames Rest tail =
      ((asked rule.Result → f.result ≡ None) × Closed f Rest tail)
      ⊎ ((second : Code) × (more : List Op) × (tail ≡ op.Else ∷ (flat second ++ more))
      × IsTyped asked (within asked c (frame opener.Else f.result f.below ∷ frames)) [] second (results_of f.result) × Closed f Rest more)
  TailBy opener.Else f frames Rest tail = Closed f Rest tail

  -- The code begins with that of a tree, which is typed in the innermost block, and goes on with those around it.
  abbrev Parsed : List Frame → List Op → List ValueType → Type 0
  Parsed [] ops before = (code : Code) × (ops ≡ flat code) × IsTyped asked (within asked c []) before code c.results
  Parsed (f ∷ frames) ops before =
      (code : Code) × (tail : List Op) × (ops ≡ flat code ++ tail) × IsTyped asked (within asked c (f ∷ frames)) before code (results_of f.result)
      × TailBy f.opener f frames (Parsed frames) tail

  abbrev ParsedAt : Place → List Frame → List Op → List ValueType → Type 0
  ParsedAt Usual frames ops before = Parsed frames ops before
  ParsedAt (Owes n results) frames ops before =
      (labels : List ℕ) × (last : ℕ) × (rest : List Op) × (ops ≡ map op.Target labels ++ op.Target last ∷ rest) × (length labels ≡ n)
      × AllByRecursion (IsTarget asked (labels_of asked c frames) results) labels × IsFound (asked rule.Label) (slice_get (labels_of asked c frames) last) results
      × (asked rule.Operand → StartsWith (I32 ∷ results) before) × (any : List ValueType) × Parsed frames rest any

  -- Some code before what is parsed.
  wrap : (F : Code → Code) (front : List Op) (before mid : List ValueType) (frames : List Frame) → ((code : Code) → flat (F code) ≡ front ++ flat code)
      → ((code : Code) (after : List ValueType) → IsTyped asked (within asked c frames) mid code after → IsTyped asked (within asked c frames) before (F code) after)
      → (ops : List Op) → Parsed frames ops mid → Parsed frames (front ++ ops) before
  wrap F front before mid [] spelled typed ops p = (F p.0, ap (λ l. front ++ l) p.1 ∙ sym (spelled p.0), typed p.0 c.results p.2)
  wrap F front before mid (f ∷ frames) spelled typed ops p =
      (F p.0, p.1, ap (λ l. front ++ l) p.2 ∙ sym (append_assoc front (flat p.0) p.1) ∙ ap (λ l. l ++ p.1) (sym (spelled p.0)), typed p.0 (results_of f.result) p.3, p.4)

  closes : (o : Opener) (f : Frame) (frames : List Frame) (Rest : Rests) (ops : List Op) → (asked rule.Result → EndsBy o f.result) → Rest ops (results_of f.result ++ f.below) → TailBy o f frames Rest (op.End ∷ ops)
  closes opener.Block f frames Rest ops ends rest = (ops, refl, rest)
  closes opener.Loop f frames Rest ops ends rest = (ops, refl, rest)
  closes opener.If f frames Rest ops ends rest = inl (ends, (ops, refl, rest))
  closes opener.Else f frames Rest ops ends rest = (ops, refl, rest)

  turns : (o : Opener) (f : Frame) (frames : List Frame) → IsIf asked c o → (ops : List Op) → Parsed (frame opener.Else f.result f.below ∷ frames) ops [] → TailBy o f frames (Parsed frames) (op.Else ∷ ops)
  turns opener.Block f frames h ops p = absurd h
  turns opener.Loop f frames h ops p = absurd h
  turns opener.If f frames h ops p = inr (p.0, p.1, ap (λ l. op.Else ∷ l) p.2, p.3, p.4)
  turns opener.Else f frames h ops p = absurd h

  spelled_block : (o : Op) (body rest : List Op) → o ∷ (body ++ op.End ∷ rest) ≡ (o ∷ (body ++ op.End ∷ [])) ++ rest
  spelled_block o body rest = ap (λ l. o ∷ l) (sym (append_assoc body (op.End ∷ []) rest))

  spelled_sides : (o : Op) (first second rest : List Op) → o ∷ (first ++ op.Else ∷ (second ++ op.End ∷ rest)) ≡ (o ∷ (first ++ op.Else ∷ (second ++ op.End ∷ []))) ++ rest
  spelled_sides o first second rest =
      ap (λ l. o ∷ (first ++ op.Else ∷ l)) (sym (append_assoc second (op.End ∷ []) rest)) ∙ ap (λ l. o ∷ l) (sym (append_assoc first (op.Else ∷ (second ++ op.End ∷ [])) rest))

  -- A block whose body is parsed.
  blocked : (o : Op) (F : Code → Code → Code) (f : Frame) (frames : List Frame) (before : List ValueType) → ((body rest : Code) → flat (F body rest) ≡ o ∷ (flat body ++ op.End ∷ flat rest))
      → ((body : Code) → IsTyped asked (within asked c (f ∷ frames)) [] body (results_of f.result) → (rest : Code) (after : List ValueType)
      → IsTyped asked (within asked c frames) (results_of f.result ++ f.below) rest after → IsTyped asked (within asked c frames) before (F body rest) after)
      → (ops : List Op) (body : Code) (tail : List Op) → ops ≡ flat body ++ tail → IsTyped asked (within asked c (f ∷ frames)) [] body (results_of f.result) → Closed f (Parsed frames) tail → Parsed frames (o ∷ ops) before
  blocked o F f frames before spelled typed ops body tail e t closed =
      let whole : o ∷ ops ≡ (o ∷ (flat body ++ op.End ∷ [])) ++ closed.0 = ap (λ l. o ∷ l) (e ∙ ap (λ l. flat body ++ l) closed.1) ∙ spelled_block o (flat body) closed.0 in
      subst (λ l. Parsed frames l before) (sym whole)
      (wrap (F body) (o ∷ (flat body ++ op.End ∷ [])) before (results_of f.result ++ f.below) frames
      (λ code. spelled body code ∙ spelled_block o (flat body) (flat code)) (λ code after r. typed body t code after r) closed.0 closed.2)

  sided : (kind : Option ValueType) (mid before : List ValueType) (frames : List Frame) → ((first : Code) → IsTyped asked (within asked c (frame opener.If kind mid ∷ frames)) [] first (results_of kind) → (second : Code)
      → IsTyped asked (within asked c (frame opener.Else kind mid ∷ frames)) [] second (results_of kind) → (rest : Code) (after : List ValueType)
      → IsTyped asked (within asked c frames) (results_of kind ++ mid) rest after → IsTyped asked (within asked c frames) before (IfElse kind first second rest) after)
      → (ops : List Op) (first : Code) (tail : List Op) → ops ≡ flat first ++ tail → IsTyped asked (within asked c (frame opener.If kind mid ∷ frames)) [] first (results_of kind)
      → (second : Code) (more : List Op) → tail ≡ op.Else ∷ (flat second ++ more) → IsTyped asked (within asked c (frame opener.Else kind mid ∷ frames)) [] second (results_of kind)
      → Closed (frame opener.Else kind mid) (Parsed frames) more → Parsed frames (op.If kind ∷ ops) before
  sided kind mid before frames typed ops first tail e t second more e2 t2 closed =
      let front : List Op = op.If kind ∷ (flat first ++ op.Else ∷ (flat second ++ op.End ∷ [])) in
      let whole : op.If kind ∷ ops ≡ front ++ closed.0 =
      ap (λ l. op.If kind ∷ l) (e ∙ ap (λ l. flat first ++ l) (e2 ∙ ap (λ l. op.Else ∷ (flat second ++ l)) closed.1)) ∙ spelled_sides (op.If kind) (flat first) (flat second) closed.0 in
      subst (λ l. Parsed frames l before) (sym whole)
      (wrap (IfElse kind first second) front before (results_of kind ++ mid) frames (λ code. spelled_sides (op.If kind) (flat first) (flat second) (flat code)) (λ code after r. typed first t second t2 code after r) closed.0 closed.2)

  pub parses : (ops : List Op) (place : Place) (frames : List Frame) (before : List ValueType) → Runs asked c ops place frames before → ParsedAt place frames ops before
  parses [] Usual [] before h = (Stop, refl, h)
  parses [] Usual (f ∷ frames) before h = absurd h
  parses [] (Owes n results) frames before h = absurd h
  parses (op.Plain p ∷ ops) Usual frames before h =
      wrap (Then p) (op.Plain p ∷ []) before h.0 frames (λ code. refl) (λ code after t. (h.0, h.1, t)) ops (parses ops Usual frames h.0 h.2)
  parses (op.Unreachable ∷ ops) Usual frames before h =
      wrap Unreachable (op.Unreachable ∷ []) before h.0 frames (λ code. refl) (λ code after t. (h.0, t)) ops (parses ops Usual frames h.0 h.1)
  parses (op.Block kind ∷ ops) Usual frames before h =
      let p = parses ops Usual (frame opener.Block kind before ∷ frames) [] h in
      blocked (op.Block kind) (Block kind) (frame opener.Block kind before) frames before (λ body rest. refl) (λ body t rest after r. (t, r)) ops p.0 p.1 p.2 p.3 p.4
  parses (op.Loop kind ∷ ops) Usual frames before h =
      let p = parses ops Usual (frame opener.Loop kind before ∷ frames) [] h in
      blocked (op.Loop kind) (Loop kind) (frame opener.Loop kind before) frames before (λ body rest. refl) (λ body t rest after r. (t, r)) ops p.0 p.1 p.2 p.3 p.4
  parses (op.If kind ∷ ops) Usual frames before h =
      let p = parses ops Usual (frame opener.If kind h.0 ∷ frames) [] h.2 in
      elim p.4 [
        | inl x ↦ blocked (op.If kind) (If kind) (frame opener.If kind h.0) frames before (λ body rest. refl) (λ body t rest after r. (h.0, h.1, x.0, t, r)) ops p.0 p.1 p.2 p.3 x.1
        | inr x ↦ sided kind h.0 before frames (λ first t second t2 rest after r. (h.0, h.1, t, t2, r)) ops p.0 p.1 p.2 p.3 x.0 x.1 x.2 x.3 x.4
      ]
  parses (op.Else ∷ ops) Usual [] before h = absurd h
  parses (op.Else ∷ ops) Usual (f ∷ frames) before h =
      (Stop, op.Else ∷ ops, refl, h.1, turns f.opener f frames h.0 ops (parses ops Usual (frame opener.Else f.result f.below ∷ frames) [] h.2))
  parses (op.End ∷ ops) Usual [] before h = absurd h
  parses (op.End ∷ ops) Usual (f ∷ frames) before h =
      (Stop, op.End ∷ ops, refl, h.0, closes f.opener f frames (Parsed frames) ops h.1 (parses ops Usual frames (results_of f.result ++ f.below) h.2))
  parses (op.Br label ∷ ops) Usual frames before h =
      wrap (Br label) (op.Br label ∷ []) before h.3 frames (λ code. refl) (λ code after t. (h.0, h.1, h.2, h.3, t)) ops (parses ops Usual frames h.3 h.4)
  parses (op.BrIf label ∷ ops) Usual frames before h =
      wrap (BrIf label) (op.BrIf label ∷ []) before h.2 frames (λ code. refl) (λ code after t. (h.0, h.1, h.2, h.3, t)) ops (parses ops Usual frames h.2 h.4)
  parses (op.BrTable count ∷ ops) Usual frames before h =
      let p = parses ops (Owes count h.0) frames before h.1 in
      let front : List Op = op.BrTable count ∷ (map op.Target p.0 ++ op.Target p.1 ∷ []) in
      let whole : op.BrTable count ∷ ops ≡ front ++ p.2 = ap (λ l. op.BrTable count ∷ l) (p.3 ∙ sym (append_assoc (map op.Target p.0) (op.Target p.1 ∷ []) p.2)) in
      subst (λ l. Parsed frames l before) (sym whole)
      (wrap (BrTable p.0 p.1) front before p.8 frames
      (λ code. ap (λ n. op.BrTable n ∷ (map op.Target p.0 ++ op.Target p.1 ∷ flat code)) p.4 ∙ ap (λ l. op.BrTable count ∷ l) (sym (append_assoc (map op.Target p.0) (op.Target p.1 ∷ []) (flat code))))
      (λ code after t. (h.0, p.6, p.5, p.7, p.8, t)) p.2 p.9)
  parses (op.Target label ∷ ops) Usual frames before h = absurd h
  parses (op.Return ∷ ops) Usual frames before h =
      wrap Return (op.Return ∷ []) before h.1 frames (λ code. refl) (λ code after t. (h.0, h.1, t)) ops (parses ops Usual frames h.1 h.2)
  parses (op.Call f ∷ ops) Usual frames before h =
      wrap (Call f) (op.Call f ∷ []) before h.2 frames (λ code. refl) (λ code after t. (h.0, h.1, h.2, h.3, t)) ops (parses ops Usual frames h.2 h.4)
  parses (op.CallIndirect x ∷ ops) Usual frames before h =
      wrap (CallIndirect x) (op.CallIndirect x ∷ []) before h.3 frames (λ code. refl) (λ code after t. (h.0, h.1, h.2, h.3, h.4, t)) ops (parses ops Usual frames h.3 h.5)
  parses (op.Target label ∷ ops) (Owes zero results) frames before h =
      ([], label, ops, refl, refl, tt, h.0, h.1, h.2, parses ops Usual frames h.2 h.3)
  parses (op.Target label ∷ ops) (Owes (suc n) results) frames before h =
      let p = parses ops (Owes n results) frames before h.1 in
      (label ∷ p.0, p.1, p.2, ap (λ l. op.Target label ∷ l) p.3, ap suc p.4, (h.0, p.5), p.6, p.7, p.8, p.9)
  parses (op.Plain p ∷ ops) (Owes n results) frames before h = absurd h
  parses (op.Unreachable ∷ ops) (Owes n results) frames before h = absurd h
  parses (op.Block kind ∷ ops) (Owes n results) frames before h = absurd h
  parses (op.Loop kind ∷ ops) (Owes n results) frames before h = absurd h
  parses (op.If kind ∷ ops) (Owes n results) frames before h = absurd h
  parses (op.Else ∷ ops) (Owes n results) frames before h = absurd h
  parses (op.End ∷ ops) (Owes n results) frames before h = absurd h
  parses (op.Br label ∷ ops) (Owes n results) frames before h = absurd h
  parses (op.BrIf label ∷ ops) (Owes n results) frames before h = absurd h
  parses (op.BrTable count ∷ ops) (Owes n results) frames before h = absurd h
  parses (op.Return ∷ ops) (Owes n results) frames before h = absurd h
  parses (op.Call f ∷ ops) (Owes n results) frames before h = absurd h
  parses (op.CallIndirect x ∷ ops) (Owes n results) frames before h = absurd h

  -- A whole body.
  pub body_parses : (ops : List Op) → Runs asked c ops Usual [] [] → (code : Code) × (ops ≡ flat code) × IsTyped asked c [] code c.results
  body_parses ops h = parses ops Usual [] [] h
