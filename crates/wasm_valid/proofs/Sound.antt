-- Where the check of a body passes, the rules hold.
use Rattle.std.proofs.Common.{◌≡◌, ℕ, zero, suc, List, [], ◌∷◌, ◌++◌, length, slice_get, reverse, Option, Some, None, refl, sym, ap, ◌∙◌, subst, arith, true}
use Rattle.std.specs.Prelude.{IfSome, nat_le, ◌==◌}
use Rattle.std.proofs.lemmas.Bool.{eqb-true, ltb-true, leb-true}
use Rattle.std.proofs.lemmas.Option.{slice_get_within}
use Rattle.wasm_tree.specs.declared.rule.Rule.TheVariants as rule
use Rattle.wasm_tree.specs.declared.types.ValueType.{ValueType}
use Rattle.wasm_tree.specs.declared.types.ValueType.TheVariants.{I32, I64}
use Rattle.wasm_tree.specs.declared.types.FunctionType.{FunctionType}
use Rattle.wasm_tree.specs.declared.op.Conversion.TheVariants.{Wrap, ExtendS, ExtendU}
use Rattle.wasm_tree.specs.declared.op.Plain.{Plain}
use Rattle.wasm_tree.specs.declared.op.Plain.TheVariants as plain
use Rattle.wasm_tree.specs.declared.op.Op.{Op}
use Rattle.wasm_tree.specs.declared.op.Op.TheVariants as op
use Rattle.wasm_tree.specs.declared.module_parts.Module.{Module}
use Rattle.wasm_tree.specs.Rules.{Context, every, StartsWith, Takes, HasMemory, HasTable, signatures, or_no, type_of, global_of, results_of, load_type, load_align, store_type, store_align}
use Rattle.wasm_tree.specs.Typing.{IsPlainTyped}
use Rattle.wasm_tree.proofs.Asked.{found, takes}
use Rattle.wasm_valid.specs.declared.blocks.Opened.{Opened}
use Rattle.wasm_valid.specs.declared.blocks.Opener.{Opener}
use Rattle.wasm_valid.specs.declared.blocks.Opener.TheVariants as opener
use Rattle.wasm_valid.specs.declared.body.Table.{Table}
use Rattle.wasm_valid.specs.Verdict.{Verdict, Passes, need, with_found}
use Rattle.wasm_valid.specs.Operands.{Stack, pop, push, choose, pop_all, pop_result, push_result, fits, change}
use Rattle.wasm_valid.specs.Blocks.{labels}
use Rattle.wasm_valid.specs.Body.{open_of, fresh, dead, has_memory, has_table, agrees, may_end, is_if, call, after_target, plain_step, step, at_last, run, Next}
use Rattle.wasm_valid.proofs.Stacks.{Is, push_result_told, some, need_passes, found_passes, pop_sound, pop_all_sound, pop_any_sound, choose_sound, fits_sound}
use Rattle.wasm_valid.proofs.Runs as runs
use Rattle.wasm_valid.proofs.Runs.{Frame, frame, Place, Usual, Owes, After, labels_of, within, Runs}
use Rattle.wasm_valid.proofs.States.{frames_of, AreBelow, place_of, context, may_end_sound, Wants, Wanted, agreed, if_sound, label_some}

pub result_all : (kind : Option ValueType) (s : Stack) (next : Stack → Verdict) → pop_result kind s next ≡ pop_all (results_of kind) s next
result_all None s next = refl
result_all (Some kind) s next = refl

moves_sound : (ts : List ValueType) (gives : Option ValueType) (s : Stack) (next : Stack → Verdict) → pop_all ts s (λ s. next (push_result gives s)) ≡ Passes
    → (s' : Stack) × (next s' ≡ Passes) × ((mid : List ValueType) → Is s' mid → (before : List ValueType) × Is s before × Takes every ts (results_of gives) before mid)
moves_sound ts gives s next e =
    let a = pop_all_sound ts s (λ s. next (push_result gives s)) e in (
      push_result gives a.0,
      a.1,
      λ mid h. let p = push_result_told gives a.0 mid h in (ts ++ p.0, a.2 p.0 p.2, subst (λ mid. Takes every ts (results_of gives) (ts ++ p.0) mid) (sym p.1) (takes ts (results_of gives) p.0)),
    )

takes_more : (k : ValueType) {ts gives before mid : List ValueType} → Takes every ts gives before mid → Takes every (k ∷ ts) gives (k ∷ before) mid
takes_more k t = record { found = λ a. let w = t.found a in record { rest = w.rest; split = ap (λ l. k ∷ l) w.split }; left = t.left }

module _ (m : Module) (locals : List ValueType) (result : Option ValueType) where
  -- What a body may use in these blocks.
  abbrev at : List (List ValueType) → Context
  at ls = record { within = m; locals = locals; labels = ls; results = results_of result }

  abbrev PlainSound : Plain → Stack → (Stack → Verdict) → Type 0
  PlainSound p s next =
      (s' : Stack) × (next s' ≡ Passes)
      × ((ls : List (List ValueType)) (mid : List ValueType) → Is s' mid → (before : List ValueType) × Is s before × IsPlainTyped every (at ls) p before mid)

  memory_sound : has_memory m ≡ true → HasMemory m
  memory_sound e = let h = ltb-true 0 (length m.memories) e in omega (arith, h)

  table_sound : has_table m ≡ true → HasTable m
  table_sound e = let h = ltb-true 0 (length m.tables) e in omega (arith, h)

  plain_sound : (p : Plain) (s : Stack) (next : Stack → Verdict) → plain_step m locals p s next ≡ Passes → PlainSound p s next
  plain_sound plain.Nop s next e = let b = moves_sound [] None s next e in (b.0, b.1, λ ls mid h. b.2 mid h)
  plain_sound plain.Drop s next e =
      let a = pop_any_sound s next e in (a.1, a.2, λ ls mid h. (a.0 ∷ mid, a.3 mid h, (a.0, takes (a.0 ∷ []) [] mid)))
  plain_sound plain.Select s next e =
      let a = pop_sound I32 s (λ s. choose s next) e in
      let b = choose_sound a.0 next a.1 in (
        b.0,
        b.1,
        λ ls mid h.
            let t = b.2 mid h in (
              I32 ∷ t.0 ∷ t.0 ∷ t.1,
              a.2 (t.0 ∷ t.0 ∷ t.1) t.3,
              record { kind = t.0; first = refl; taken = subst (λ mid. Takes every (I32 ∷ t.0 ∷ t.0 ∷ []) (t.0 ∷ []) (I32 ∷ t.0 ∷ t.0 ∷ t.1) mid) (sym t.2) (takes (I32 ∷ t.0 ∷ t.0 ∷ []) (t.0 ∷ []) t.1) },
            ),
      )
  plain_sound (plain.LocalGet x) s next e =
      let f = found_passes rule.Index (slice_get locals x) (λ kind. next (push kind s)) e in
      let a = moves_sound [] (Some f.0) s next f.2 in
      (a.0, a.1, λ ls mid h. let t = a.2 mid h in (t.0, t.1, (f.0, found f.1, t.2)))
  plain_sound (plain.LocalSet x) s next e =
      let f = found_passes rule.Index (slice_get locals x) (λ kind. pop kind s next) e in
      let a = moves_sound (f.0 ∷ []) None s next f.2 in
      (a.0, a.1, λ ls mid h. let t = a.2 mid h in (t.0, t.1, (f.0, found f.1, t.2)))
  plain_sound (plain.LocalTee x) s next e =
      let f = found_passes rule.Index (slice_get locals x) (λ kind. change kind kind s next) e in
      let a = moves_sound (f.0 ∷ []) (Some f.0) s next f.2 in
      (a.0, a.1, λ ls mid h. let t = a.2 mid h in (t.0, t.1, (f.0, found f.1, t.2)))
  plain_sound (plain.GlobalGet x) s next e =
      let f = found_passes rule.Index (global_of m x) (λ g. next (push g.kind s)) e in
      let a = moves_sound [] (Some f.0.kind) s next f.2 in
      (a.0, a.1, λ ls mid h. let t = a.2 mid h in (t.0, t.1, (f.0, found f.1, t.2)))
  plain_sound (plain.GlobalSet x) s next e =
      let f = found_passes rule.Index (global_of m x) (λ g. need rule.Mutable g.mutable (pop g.kind s next)) e in
      let n = need_passes rule.Mutable f.0.mutable (pop f.0.kind s next) f.2 in
      let a = moves_sound (f.0.kind ∷ []) None s next n.1 in
      (a.0, a.1, λ ls mid h. let t = a.2 mid h in (t.0, t.1, (f.0, found f.1, λ _. n.0, t.2)))
  plain_sound (plain.Load kind a) s next e =
      let n = need_passes rule.Index (has_memory m) (need rule.Align (nat_le a.align (load_align kind)) (change I32 (load_type kind) s next)) e in
      let n2 = need_passes rule.Align (nat_le a.align (load_align kind)) (change I32 (load_type kind) s next) n.1 in
      let b = moves_sound (I32 ∷ []) (Some (load_type kind)) s next n2.1 in
      (b.0, b.1, λ ls mid h. let t = b.2 mid h in (t.0, t.1, (λ _. memory_sound n.0, λ _. leb-true a.align (load_align kind) n2.0, t.2)))
  plain_sound (plain.Store kind a) s next e =
      let n = need_passes rule.Index (has_memory m) (need rule.Align (nat_le a.align (store_align kind)) (pop (store_type kind) s (λ s. pop I32 s next))) e in
      let n2 = need_passes rule.Align (nat_le a.align (store_align kind)) (pop (store_type kind) s (λ s. pop I32 s next)) n.1 in
      let b = moves_sound (store_type kind ∷ I32 ∷ []) None s next n2.1 in
      (b.0, b.1, λ ls mid h. let t = b.2 mid h in (t.0, t.1, (λ _. memory_sound n.0, λ _. leb-true a.align (store_align kind) n2.0, t.2)))
  plain_sound plain.MemorySize s next e =
      let n = need_passes rule.Index (has_memory m) (next (push I32 s)) e in
      let b = moves_sound [] (Some I32) s next n.1 in
      (b.0, b.1, λ ls mid h. let t = b.2 mid h in (t.0, t.1, (λ _. memory_sound n.0, t.2)))
  plain_sound plain.MemoryGrow s next e =
      let n = need_passes rule.Index (has_memory m) (change I32 I32 s next) e in
      let b = moves_sound (I32 ∷ []) (Some I32) s next n.1 in
      (b.0, b.1, λ ls mid h. let t = b.2 mid h in (t.0, t.1, (λ _. memory_sound n.0, t.2)))
  plain_sound (plain.I32Const z) s next e = let b = moves_sound [] (Some I32) s next e in (b.0, b.1, λ ls mid h. b.2 mid h)
  plain_sound (plain.I64Const z) s next e = let b = moves_sound [] (Some I64) s next e in (b.0, b.1, λ ls mid h. b.2 mid h)
  plain_sound (plain.EqualsZero kind) s next e = let b = moves_sound (kind ∷ []) (Some I32) s next e in (b.0, b.1, λ ls mid h. b.2 mid h)
  plain_sound (plain.Compare kind o) s next e = let b = moves_sound (kind ∷ kind ∷ []) (Some I32) s next e in (b.0, b.1, λ ls mid h. b.2 mid h)
  plain_sound (plain.Unary kind o) s next e = let b = moves_sound (kind ∷ []) (Some kind) s next e in (b.0, b.1, λ ls mid h. b.2 mid h)
  plain_sound (plain.Binary kind o) s next e = let b = moves_sound (kind ∷ kind ∷ []) (Some kind) s next e in (b.0, b.1, λ ls mid h. b.2 mid h)
  plain_sound (plain.Convert Wrap) s next e = let b = moves_sound (I64 ∷ []) (Some I32) s next e in (b.0, b.1, λ ls mid h. b.2 mid h)
  plain_sound (plain.Convert ExtendS) s next e = let b = moves_sound (I32 ∷ []) (Some I64) s next e in (b.0, b.1, λ ls mid h. b.2 mid h)
  plain_sound (plain.Convert ExtendU) s next e = let b = moves_sound (I32 ∷ []) (Some I64) s next e in (b.0, b.1, λ ls mid h. b.2 mid h)

  -- The state stands for operands from which the rest runs.
  abbrev FoundAt : After every (context m locals result) → Option Table → List Opened → Stack → Type 0
  FoundAt Rest table blocks s =
      (results : List ValueType) × (belows : List (List ValueType)) × (ks : List ValueType) × Wanted every table results × AreBelow blocks belows × Is s ks
      × Rest (place_of table results) (frames_of blocks belows) ks

  -- Types have at most one result.
  module _ (one : (x : ℕ) (t : FunctionType) → slice_get m.types x ≡ Some t → reverse t.results ≡ results_of (slice_get t.results 0)) where
    pub one_of : (f : ℕ) (t : FunctionType) → type_of m f ≡ Some t → reverse t.results ≡ results_of (slice_get t.results 0)
    one_of f t e = of_signature (slice_get (signatures m) f) e
      where
        of_signature : (signature : Option ℕ) → or_no signature (slice_get m.types) ≡ Some t → reverse t.results ≡ results_of (slice_get t.results 0)
        of_signature None e = cc
        of_signature (Some x) e = one x t e

    module _ (next : Next) (Rest : After every (context m locals result)) (goes : (table : Option Table) (blocks : List Opened) (s : Stack) → next table blocks s ≡ Passes → FoundAt Rest table blocks s) where
      call_sound : (t : FunctionType) → reverse t.results ≡ results_of (slice_get t.results 0) → (blocks : List Opened) (s : Stack) → call t s (λ s. next None blocks s) ≡ Passes
          → (belows : List (List ValueType)) × (before : List ValueType) × AreBelow blocks belows × Is s before
          × (mid : List ValueType) × Takes every (reverse t.params) (reverse t.results) before mid × Rest Usual (frames_of blocks belows) mid
      call_sound t one blocks s e =
          let a = moves_sound (reverse t.params) (slice_get t.results 0) s (λ s. next None blocks s) e in
          let g = goes None blocks a.0 a.1 in
          let b = a.2 g.2 g.5 in
          (g.1, b.0, g.4, b.1, g.2, subst (λ gives. Takes every (reverse t.params) gives b.0 g.2) (sym one) b.2, g.6)

      target_sound : (n : ℕ) (w : Option (Option ValueType)) (l : ℕ) (blocks : List Opened) (s : Stack)
          → with_found rule.Label (slice_get (labels result blocks) l) (λ kind. need rule.Operand (agrees w kind) (after_target n kind blocks s next)) ≡ Passes
          → (results : List ValueType) × (belows : List (List ValueType)) × (ks : List ValueType) × Wants every w results × AreBelow blocks belows × Is s ks
          × runs.Targets every (context m locals result) n results l (frames_of blocks belows) ks Rest
      target_sound zero w l blocks s e =
          let f = found_passes rule.Label (slice_get (labels result blocks) l) (λ kind. need rule.Operand (agrees w kind) (after_target zero kind blocks s next)) e in
          let n = need_passes rule.Operand (agrees w f.0) (after_target zero f.0 blocks s next) f.2 in
          let a = pop_sound I32 s (λ s. pop_result f.0 s (λ s. next None blocks dead)) n.1 in
          let b = pop_all_sound (results_of f.0) a.0 (λ s. next None blocks dead) (sym (result_all f.0 a.0 (λ s. next None blocks dead)) ∙ a.1) in
          let g = goes None blocks dead b.1 in
          let under = some b.0 in (
            results_of f.0,
            g.1,
            I32 ∷ (results_of f.0 ++ under.0),
            agreed every w f.0 (results_of f.0) n.0 (λ _. refl),
            g.4,
            a.2 (results_of f.0 ++ under.0) (b.2 under.0 under.1),
            (found (label_some every m locals result blocks g.1 g.4 l f.0 f.1), λ _. record { rest = under.0; split = refl }, g.2, g.6),
          )
      target_sound (suc n) w l blocks s e =
          let f = found_passes rule.Label (slice_get (labels result blocks) l) (λ kind. need rule.Operand (agrees w kind) (after_target (suc n) kind blocks s next)) e in
          let p = need_passes rule.Operand (agrees w f.0) (after_target (suc n) f.0 blocks s next) f.2 in
          let g = goes (Some (record { owed = n; wanted = Some f.0 })) blocks s p.1 in
          let there = label_some every m locals result blocks g.1 g.4 l f.0 f.1 in (
            g.0,
            g.1,
            g.2,
            agreed every w f.0 g.0 p.0 g.3,
            g.4,
            g.5,
            (
              record {
                there = λ _. slice_get_within (labels_of every (context m locals result) (frames_of blocks g.1)) l (results_of f.0) there;
                same = λ a. subst (λ o. IfSome o (λ found. found ≡ g.0)) (sym there) (sym (g.3 a));
              },
              g.6,
            ),
          )

      opens_at : (o : Opener) (kind : Option ValueType) (s : Stack) (blocks : List Opened) (belows : List (List ValueType)) (ks : List ValueType) → AreBelow (open_of o kind s ∷ blocks) belows → Is fresh ks
          → Rest Usual (frames_of (open_of o kind s ∷ blocks) belows) ks
          → (belows : List (List ValueType)) × (below : List ValueType) × AreBelow blocks belows × Is s below × Rest Usual (frame o kind below ∷ frames_of blocks belows) []
      opens_at o kind s blocks [] ks h is rest = absurd h
      opens_at o kind s blocks (b ∷ belows) ks h is rest = (belows, b, h.1, h.0, subst (Rest Usual (frame o kind b ∷ frames_of blocks belows)) is rest)

      opens : (o : Opener) (kind : Option ValueType) (s : Stack) (blocks : List Opened) → next None (open_of o kind s ∷ blocks) fresh ≡ Passes
          → (belows : List (List ValueType)) × (below : List ValueType) × AreBelow blocks belows × Is s below × Rest Usual (frame o kind below ∷ frames_of blocks belows) []
      opens o kind s blocks e = let g = goes None (open_of o kind s ∷ blocks) fresh e in opens_at o kind s blocks g.1 g.2 g.4 g.5 g.6

      -- What is taken before anything may come.
      jump_sound : (ts : List ValueType) (blocks : List Opened) (s : Stack) → pop_all ts s (λ s. next None blocks dead) ≡ Passes
          → (belows : List (List ValueType)) × (before : List ValueType) × AreBelow blocks belows × Is s before × StartsWith ts before × (any : List ValueType) × Rest Usual (frames_of blocks belows) any
      jump_sound ts blocks s e =
          let b = pop_all_sound ts s (λ s. next None blocks dead) e in
          let g = goes None blocks dead b.1 in
          let under = some b.0 in
          (g.1, ts ++ under.0, g.4, b.2 under.0 under.1, record { rest = under.0; split = refl }, g.2, g.6)

      code_sound : (o : Op) (blocks : List Opened) (s : Stack) → step m (signatures m) locals result None o blocks s next ≡ Passes
          → FoundAt (λ place frames ks. runs.Next every (context m locals result) place o frames ks Rest) None blocks s
      code_sound (op.Plain p) blocks s e =
          let a = plain_sound p s (λ s. next None blocks s) e in
          let g = goes None blocks a.0 a.1 in
          let b = a.2 (labels_of every (context m locals result) (frames_of blocks g.1)) g.2 g.5 in
          ([], g.1, b.0, tt, g.4, b.1, (g.2, b.2, g.6))
      code_sound op.Unreachable blocks s e =
          let g = goes None blocks dead e in
          let ks = some s in
          ([], g.1, ks.0, tt, g.4, ks.1, (g.2, g.6))
      code_sound (op.Block kind) blocks s e = let g = opens opener.Block kind s blocks e in ([], g.0, g.1, tt, g.2, g.3, g.4)
      code_sound (op.Loop kind) blocks s e = let g = opens opener.Loop kind s blocks e in ([], g.0, g.1, tt, g.2, g.3, g.4)
      code_sound (op.If kind) blocks s e =
          let a = pop_sound I32 s (λ s. next None (open_of opener.If kind s ∷ blocks) fresh) e in
          let g = opens opener.If kind a.0 blocks a.1 in
          ([], g.0, I32 ∷ g.1, tt, g.2, a.2 g.1 g.3, (g.1, takes (I32 ∷ []) [] g.1, g.4))
      code_sound op.Else [] s e = cc
      code_sound op.Else (o ∷ blocks) s e =
          let n = need_passes rule.Result (is_if o.opener) (need rule.Result (fits o.result s) (next None (open_of opener.Else o.result o.below ∷ blocks) fresh)) e in
          let n2 = need_passes rule.Result (fits o.result s) (next None (open_of opener.Else o.result o.below ∷ blocks) fresh) n.1 in
          let g = opens opener.Else o.result o.below blocks n2.1 in
          ([], g.1 ∷ g.0, results_of o.result, tt, (g.3, g.2), fits_sound o.result s n2.0, (if_sound every m locals result o.opener n.0, λ _. refl, g.4))
      code_sound op.End [] s e = cc
      code_sound op.End (o ∷ blocks) s e =
          let n = need_passes rule.Result (fits o.result s) (need rule.Result (may_end o.opener o.result) (next None blocks (push_result o.result o.below))) e in
          let n2 = need_passes rule.Result (may_end o.opener o.result) (next None blocks (push_result o.result o.below)) n.1 in
          let g = goes None blocks (push_result o.result o.below) n2.1 in
          let p = push_result_told o.result o.below g.2 g.5 in
          ([], p.0 ∷ g.1, results_of o.result, tt, (p.2, g.4), fits_sound o.result s n.0, (λ _. refl, λ _. may_end_sound o.opener o.result n2.0, subst (Rest Usual (frames_of blocks g.1)) p.1 g.6))
      code_sound (op.Br l) blocks s e =
          let f = found_passes rule.Label (slice_get (labels result blocks) l) (λ kind. pop_result kind s (λ s. next None blocks dead)) e in
          let g = jump_sound (results_of f.0) blocks s (sym (result_all f.0 s (λ s. next None blocks dead)) ∙ f.2) in
          ([], g.0, g.1, tt, g.2, g.3, (results_of f.0, found (label_some every m locals result blocks g.0 g.2 l f.0 f.1), λ _. g.4, g.5, g.6))
      code_sound (op.BrIf l) blocks s e =
          let f = found_passes rule.Label (slice_get (labels result blocks) l) (λ kind. pop I32 s (λ s. pop_result kind s (λ s. next None blocks (push_result kind s)))) e in
          let a = pop_sound I32 s (λ s. pop_result f.0 s (λ s. next None blocks (push_result f.0 s))) f.2 in
          let b = moves_sound (results_of f.0) f.0 a.0 (λ s. next None blocks s) (sym (result_all f.0 a.0 (λ s. next None blocks (push_result f.0 s))) ∙ a.1) in
          let g = goes None blocks b.0 b.1 in
          let t = b.2 g.2 g.5 in
          ([], g.1, I32 ∷ t.0, tt, g.4, a.2 t.0 t.1, (results_of f.0, found (label_some every m locals result blocks g.1 g.4 l f.0 f.1), g.2, takes_more I32 {ts = results_of f.0} {gives = results_of f.0} {before = t.0} {mid = g.2} t.2, g.6))
      code_sound (op.BrTable count) blocks s e =
          let g = goes (Some (record { owed = count; wanted = None })) blocks s e in
          ([], g.1, g.2, tt, g.4, g.5, (g.0, g.6))
      code_sound (op.Target l) blocks s e = cc
      code_sound op.Return blocks s e =
          let g = jump_sound (results_of result) blocks s (sym (result_all result s (λ s. next None blocks dead)) ∙ e) in
          ([], g.0, g.1, tt, g.2, g.3, (λ _. g.4, g.5, g.6))
      code_sound (op.Call f) blocks s e =
          let t = found_passes rule.Index (type_of m f) (λ t. call t s (λ s. next None blocks s)) e in
          let g = call_sound t.0 (one_of f t.0 t.1) blocks s t.2 in
          ([], g.0, g.1, tt, g.2, g.3, (t.0, found t.1, g.4, g.5, g.6))
      code_sound (op.CallIndirect x) blocks s e =
          let n = need_passes rule.Index (has_table m) (with_found rule.Index (slice_get m.types x) (λ t. pop I32 s (λ s. call t s (λ s. next None blocks s)))) e in
          let t = found_passes rule.Index (slice_get m.types x) (λ t. pop I32 s (λ s. call t s (λ s. next None blocks s))) n.1 in
          let a = pop_sound I32 s (λ s. call t.0 s (λ s. next None blocks s)) t.2 in
          let g = call_sound t.0 (one x t.0 t.1) blocks a.0 a.1 in
          ([], g.0, I32 ∷ g.1, tt, g.2, a.2 g.1 g.3, (λ _. table_sound n.0, t.0, found t.1, g.4, takes_more I32 {ts = reverse t.0.params} {gives = reverse t.0.results} {before = g.1} {mid = g.4} g.5, g.6))

      step_sound : (table : Option Table) (o : Op) (blocks : List Opened) (s : Stack) → step m (signatures m) locals result table o blocks s next ≡ Passes
          → FoundAt (λ place frames ks. runs.Next every (context m locals result) place o frames ks Rest) table blocks s
      step_sound None o blocks s e = code_sound o blocks s e
      step_sound (Some t) (op.Target l) blocks s e = target_sound t.owed t.wanted l blocks s e
      step_sound (Some t) (op.Plain p) blocks s e = cc
      step_sound (Some t) op.Unreachable blocks s e = cc
      step_sound (Some t) (op.Block kind) blocks s e = cc
      step_sound (Some t) (op.Loop kind) blocks s e = cc
      step_sound (Some t) (op.If kind) blocks s e = cc
      step_sound (Some t) op.Else blocks s e = cc
      step_sound (Some t) op.End blocks s e = cc
      step_sound (Some t) (op.Br l) blocks s e = cc
      step_sound (Some t) (op.BrIf l) blocks s e = cc
      step_sound (Some t) (op.BrTable count) blocks s e = cc
      step_sound (Some t) op.Return blocks s e = cc
      step_sound (Some t) (op.Call f) blocks s e = cc
      step_sound (Some t) (op.CallIndirect x) blocks s e = cc

    last_sound : (table : Option Table) (blocks : List Opened) (s : Stack) → at_last result table blocks s ≡ Passes → FoundAt (runs.Last every (context m locals result)) table blocks s
    last_sound None [] s e =
        let n = need_passes rule.Result (fits result s) Passes e in
        ([], [], results_of result, tt, tt, fits_sound result s n.0, λ _. refl)
    last_sound None (o ∷ blocks) s e =
        let n = need_passes rule.Result (length (o ∷ blocks) == 0) (need rule.Result (fits result s) Passes) e in
        let no : length (o ∷ blocks) ≡ 0 = eqb-true (length (o ∷ blocks)) 0 n.0 in
        absurd (omega arith)
    last_sound (Some t) blocks s e = cc

    pub sound : (ops : List Op) (table : Option Table) (blocks : List Opened) (s : Stack) → run m (signatures m) locals result ops table blocks s ≡ Passes → FoundAt (runs.Runs every (context m locals result) ops) table blocks s
    sound [] table blocks s e = last_sound table blocks s e
    sound (o ∷ ops) table blocks s e =
        step_sound (run m (signatures m) locals result ops) (runs.Runs every (context m locals result) ops) (λ table blocks s e. sound ops table blocks s e) table o blocks s e
