-- Where the check of a body finds a rule broken, the body cannot keep that rule.
use Rattle.std.proofs.Common.{◌≡◌, ℕ, zero, suc, List, [], ◌∷◌, ◌++◌, length, slice_get, reverse, Option, Some, None, refl, sym, ap, ◌∙◌, subst, arith, true, false, Bool, drop, get_or}
use Rattle.std.specs.Prelude.{IfSome, nat_le}
use Rattle.std.proofs.lemmas.Bool.{lt-ltb, le-leb}
use Rattle.std.proofs.lemmas.Option.{slice_get-get_or}
use Rattle.wasm_tree.specs.declared.rule.Rule.{Rule}
use Rattle.wasm_tree.specs.declared.rule.Rule.TheVariants as rule
use Rattle.wasm_tree.specs.declared.types.ValueType.{ValueType}
use Rattle.wasm_tree.specs.declared.types.ValueType.TheVariants.{I32, I64}
use Rattle.wasm_tree.specs.declared.types.FunctionType.{FunctionType}
use Rattle.wasm_tree.specs.declared.op.Conversion.TheVariants.{Wrap, ExtendS, ExtendU}
use Rattle.wasm_tree.specs.declared.op.Plain.{Plain}
use Rattle.wasm_tree.specs.declared.op.Plain.TheVariants as plain
use Rattle.wasm_tree.specs.declared.op.Op.{Op}
use Rattle.wasm_tree.specs.declared.op.Op.TheVariants as op
use Rattle.wasm_tree.specs.declared.module_parts.Module.{Module}
use Rattle.wasm_tree.specs.Rules.{Context, IsFound, StartsWith, Takes, HasMemory, HasTable, signatures, type_of, global_of, results_of, load_type, load_align, store_type, store_align}
use Rattle.wasm_tree.specs.Typing.{IsPlainTyped}
use Rattle.wasm_tree.proofs.Asked.{found, takes}
use Rattle.wasm_valid.specs.declared.blocks.Opened.{Opened}
use Rattle.wasm_valid.specs.declared.blocks.Opener.TheVariants as opener
use Rattle.wasm_valid.specs.declared.body.Table.{Table}
use Rattle.wasm_valid.specs.Verdict.{Verdict, Passes, Breaks, need, with_found}
use Rattle.wasm_valid.specs.Operands.{Stack, pop, push, choose, pop_all, pop_result, push_result, fits, change}
use Rattle.wasm_valid.specs.Blocks.{labels}
use Rattle.wasm_valid.specs.Body.{open_of, fresh, dead, has_memory, has_table, agrees, may_end, is_if, call, after_target, plain_step, step, at_last, run, Next}
use Rattle.wasm_valid.proofs.Stacks.{Is, drop_more, push_result_is, fits_complete, pop_follows, pop_all_follows, pop_any_follows, choose_follows}
use Rattle.wasm_valid.proofs.Runs as runs
use Rattle.wasm_valid.proofs.Runs.{Frame, frame, Place, Usual, Owes, After, labels_of, within, Runs}
use Rattle.wasm_valid.proofs.States.{frames_of, AreBelow, place_of, context, may_end_complete, Wants, Wanted, agrees_by, if_complete, label_some, label_none}
use Rattle.wasm_valid.proofs.Sound.{result_all, one_of}

module _ (asked : Rule → Type 0) (r : Rule) (is : asked r) where
  pub need_follows : (q : Rule) (b : Bool) (next : Verdict) → (asked q → b ≡ true) → need q b next ≡ Breaks r → next ≡ Breaks r
  need_follows q true next holds e = e
  need_follows q false next holds e = let same : q ≡ r = cc in let no : false ≡ true = holds (subst asked (sym same) is) in cc

  pub found_follows : {A : Type 0} (q : Rule) (o : Option A) (next : A → Verdict) (item : A) → IsFound (asked q) o item → with_found q o next ≡ Breaks r → next item ≡ Breaks r
  found_follows q None next item f e = let same : q ≡ r = cc in let no : None ≡ Some item = f.there (subst asked (sym same) is) in cc
  found_follows q (Some a) next item f e = subst (λ a. next a ≡ Breaks r) f.same e

  moves_follows : (ts : List ValueType) (gives : Option ValueType) (s : Stack) (next : Stack → Verdict) (ks mid : List ValueType) → Is s ks → Takes asked ts (results_of gives) ks mid
      → pop_all ts s (λ s. next (push_result gives s)) ≡ Breaks r → (s' : Stack) × (next s' ≡ Breaks r) × Is s' mid
  moves_follows ts gives s next ks mid h t e =
      let a = pop_all_follows asked r is ts s (λ s. next (push_result gives s)) ks h t.found e in
      (push_result gives a.0, a.1, subst (Is (push_result gives a.0)) (sym t.left) (push_result_is gives a.0 (drop (length ts) ks) a.2))

  module _ (m : Module) (locals : List ValueType) (result : Option ValueType) where
    memory_follows : HasMemory m → has_memory m ≡ true
    memory_follows h = lt-ltb 0 (length m.memories) (omega arith)

    table_follows : HasTable m → has_table m ≡ true
    table_follows h = lt-ltb 0 (length m.tables) (omega arith)

    abbrev Follows : (Stack → Verdict) → List ValueType → Type 0
    Follows next mid = (s' : Stack) × (next s' ≡ Breaks r) × Is s' mid

    plain_follows : (ls : List (List ValueType)) (p : Plain) (s : Stack) (next : Stack → Verdict) (ks mid : List ValueType) → Is s ks
        → IsPlainTyped asked (record { within = m; locals = locals; labels = ls; results = results_of result }) p ks mid → plain_step m locals p s next ≡ Breaks r → Follows next mid
    plain_follows ls plain.Nop s next ks mid h t e = moves_follows [] None s next ks mid h t e
    plain_follows ls plain.Drop s next ks mid h t e =
        let a = pop_any_follows asked r is t.0 s next ks h t.1.found e in
        (a.0, a.1, subst (Is a.0) (sym t.1.left) a.2)
    plain_follows ls plain.Select s next ks mid h t e =
        let a = pop_follows asked r is I32 s (λ s. choose s next) ks h (λ o. let w = t.taken.found o in record { rest = t.kind ∷ t.kind ∷ w.rest; split = w.split }) e in
        let b = choose_follows asked r is t.kind a.0 next (drop 1 ks) a.2 (first_under t.kind ks t.first) (λ o. let w = t.taken.found o in record { rest = w.rest; split = ap (drop 1) w.split }) a.1 in
        (b.0, b.1, subst (Is b.0) (ap (λ l. t.kind ∷ l) (drop_more 2 ks) ∙ sym t.taken.left) b.2)
      where
        first_under : (kind : ValueType) (ks : List ValueType) → IfSome (slice_get ks 1) (λ found. found ≡ kind) → IfSome (slice_get (drop 1 ks) 0) (λ found. found ≡ kind)
        first_under kind [] f = tt
        first_under kind (k ∷ ks) f = f
    plain_follows ls (plain.LocalGet x) s next ks mid h t e =
        moves_follows [] (Some t.0) s next ks mid h t.2 (found_follows rule.Index (slice_get locals x) (λ kind. next (push kind s)) t.0 t.1 e)
    plain_follows ls (plain.LocalSet x) s next ks mid h t e =
        moves_follows (t.0 ∷ []) None s next ks mid h t.2 (found_follows rule.Index (slice_get locals x) (λ kind. pop kind s next) t.0 t.1 e)
    plain_follows ls (plain.LocalTee x) s next ks mid h t e =
        moves_follows (t.0 ∷ []) (Some t.0) s next ks mid h t.2 (found_follows rule.Index (slice_get locals x) (λ kind. change kind kind s next) t.0 t.1 e)
    plain_follows ls (plain.GlobalGet x) s next ks mid h t e =
        moves_follows [] (Some t.0.kind) s next ks mid h t.2 (found_follows rule.Index (global_of m x) (λ g. next (push g.kind s)) t.0 t.1 e)
    plain_follows ls (plain.GlobalSet x) s next ks mid h t e =
        let a = found_follows rule.Index (global_of m x) (λ g. need rule.Mutable g.mutable (pop g.kind s next)) t.0 t.1 e in
        moves_follows (t.0.kind ∷ []) None s next ks mid h t.3 (need_follows rule.Mutable t.0.mutable (pop t.0.kind s next) t.2 a)
    plain_follows ls (plain.Load kind m') s next ks mid h t e =
        let a = need_follows rule.Index (has_memory m) (need rule.Align (nat_le m'.align (load_align kind)) (change I32 (load_type kind) s next)) (λ q. memory_follows (t.0 q)) e in
        let b = need_follows rule.Align (nat_le m'.align (load_align kind)) (change I32 (load_type kind) s next) (λ q. le-leb m'.align (load_align kind) (t.1 q)) a in
        moves_follows (I32 ∷ []) (Some (load_type kind)) s next ks mid h t.2 b
    plain_follows ls (plain.Store kind m') s next ks mid h t e =
        let a = need_follows rule.Index (has_memory m) (need rule.Align (nat_le m'.align (store_align kind)) (pop (store_type kind) s (λ s. pop I32 s next))) (λ q. memory_follows (t.0 q)) e in
        let b = need_follows rule.Align (nat_le m'.align (store_align kind)) (pop (store_type kind) s (λ s. pop I32 s next)) (λ q. le-leb m'.align (store_align kind) (t.1 q)) a in
        moves_follows (store_type kind ∷ I32 ∷ []) None s next ks mid h t.2 b
    plain_follows ls plain.MemorySize s next ks mid h t e =
        moves_follows [] (Some I32) s next ks mid h t.1 (need_follows rule.Index (has_memory m) (next (push I32 s)) (λ q. memory_follows (t.0 q)) e)
    plain_follows ls plain.MemoryGrow s next ks mid h t e =
        moves_follows (I32 ∷ []) (Some I32) s next ks mid h t.1 (need_follows rule.Index (has_memory m) (change I32 I32 s next) (λ q. memory_follows (t.0 q)) e)
    plain_follows ls (plain.I32Const z) s next ks mid h t e = moves_follows [] (Some I32) s next ks mid h t e
    plain_follows ls (plain.I64Const z) s next ks mid h t e = moves_follows [] (Some I64) s next ks mid h t e
    plain_follows ls (plain.EqualsZero kind) s next ks mid h t e = moves_follows (kind ∷ []) (Some I32) s next ks mid h t e
    plain_follows ls (plain.Compare kind o) s next ks mid h t e = moves_follows (kind ∷ kind ∷ []) (Some I32) s next ks mid h t e
    plain_follows ls (plain.Unary kind o) s next ks mid h t e = moves_follows (kind ∷ []) (Some kind) s next ks mid h t e
    plain_follows ls (plain.Binary kind o) s next ks mid h t e = moves_follows (kind ∷ kind ∷ []) (Some kind) s next ks mid h t e
    plain_follows ls (plain.Convert Wrap) s next ks mid h t e = moves_follows (I64 ∷ []) (Some I32) s next ks mid h t e
    plain_follows ls (plain.Convert ExtendS) s next ks mid h t e = moves_follows (I32 ∷ []) (Some I64) s next ks mid h t e
    plain_follows ls (plain.Convert ExtendU) s next ks mid h t e = moves_follows (I32 ∷ []) (Some I64) s next ks mid h t e

    abbrev c : Context
    c = context m locals result

    none_follows : (l : ℕ) (blocks : List Opened) (belows : List (List ValueType)) → AreBelow blocks belows → slice_get (labels result blocks) l ≡ None → (results : List ValueType)
        → IsFound (asked rule.Label) (slice_get (labels_of asked c (frames_of blocks belows)) l) results → Breaks rule.Label ≡ Breaks r → ⊥
    none_follows l blocks belows below none results f e =
        let same : rule.Label ≡ r = cc in
        let x : slice_get (labels_of asked c (frames_of blocks belows)) l ≡ Some results = f.there (subst asked (sym same) is) in
        let y : slice_get (labels_of asked c (frames_of blocks belows)) l ≡ None = label_none asked m locals result blocks belows below l none in
        cc

    some_follows : (l : ℕ) (blocks : List Opened) (belows : List (List ValueType)) → AreBelow blocks belows → (kind : Option ValueType) → slice_get (labels result blocks) l ≡ Some kind → (results : List ValueType)
        → IsFound (asked rule.Label) (slice_get (labels_of asked c (frames_of blocks belows)) l) results → results_of kind ≡ results
    some_follows l blocks belows below kind found results f = subst (λ o. IfSome o (λ other. other ≡ results)) (label_some asked m locals result blocks belows below l kind found) f.same

    -- Types have at most one result.
    module _ (one : (x : ℕ) (t : FunctionType) → slice_get m.types x ≡ Some t → reverse t.results ≡ results_of (slice_get t.results 0)) where
      module _ (next : Next) (Rest : After asked c) (goes : (table : Option Table) (blocks : List Opened) (s : Stack) (results : List ValueType) (belows : List (List ValueType)) (ks : List ValueType)
          → Wanted asked table results → AreBelow blocks belows → Is s ks → Rest (place_of table results) (frames_of blocks belows) ks → next table blocks s ≡ Breaks r → ⊥) where
        -- What is taken before anything may come.
        jump_follows : (ts : List ValueType) (blocks : List Opened) (s : Stack) (belows : List (List ValueType)) (ks any : List ValueType) → AreBelow blocks belows → Is s ks → (asked rule.Operand → StartsWith ts ks)
            → Rest Usual (frames_of blocks belows) any → pop_all ts s (λ s. next None blocks dead) ≡ Breaks r → ⊥
        jump_follows ts blocks s belows ks any below h w rest e =
            let a = pop_all_follows asked r is ts s (λ s. next None blocks dead) ks h w e in
            goes None blocks dead [] belows any tt below tt rest a.1

        -- A type of a call is there, and has at most one result, or the call is of none.
        call_follows : (t : FunctionType) → reverse t.results ≡ results_of (slice_get t.results 0) → (blocks : List Opened) (s : Stack) (belows : List (List ValueType)) (ks mid : List ValueType)
            → AreBelow blocks belows → Is s ks → Takes asked (reverse t.params) (reverse t.results) ks mid → Rest Usual (frames_of blocks belows) mid → call t s (λ s. next None blocks s) ≡ Breaks r → ⊥
        call_follows t one blocks s belows ks mid below h takes rest e =
            let a = moves_follows (reverse t.params) (slice_get t.results 0) s (λ s. next None blocks s) ks mid h (subst (λ gives. Takes asked (reverse t.params) gives ks mid) one takes) e in
            goes None blocks a.0 [] belows mid tt below a.2 rest a.1

        target_follows : (n : ℕ) (w : Option (Option ValueType)) (l : ℕ) (blocks : List Opened) (s : Stack) (results : List ValueType) (belows : List (List ValueType)) (ks : List ValueType) → Wants asked w results
            → AreBelow blocks belows → Is s ks → runs.Targets asked c n results l (frames_of blocks belows) ks Rest
            → with_found rule.Label (slice_get (labels result blocks) l) (λ kind. need rule.Operand (agrees w kind) (after_target n kind blocks s next)) ≡ Breaks r → ⊥
        target_follows n w l blocks s results belows ks wants below h t e = by_label (slice_get (labels result blocks) l) refl e
          where
            -- what the label is, in the rules
            at_label : (kind : Option ValueType) → slice_get (labels result blocks) l ≡ Some kind → slice_get (labels_of asked c (frames_of blocks belows)) l ≡ Some (results_of kind)
            at_label kind same = label_some asked m locals result blocks belows below l kind same

            there : (n : ℕ) → runs.Targets asked c n results l (frames_of blocks belows) ks Rest → slice_get (labels result blocks) l ≡ None → asked rule.Label → ⊥
            there zero t none a =
                let x : slice_get (labels_of asked c (frames_of blocks belows)) l ≡ Some results = t.0.there a in
                let y : slice_get (labels_of asked c (frames_of blocks belows)) l ≡ None = label_none asked m locals result blocks belows below l none in
                cc
            there (suc n) t none a =
                let y : slice_get (labels_of asked c (frames_of blocks belows)) l ≡ None = label_none asked m locals result blocks belows below l none in
                let x : slice_get (labels_of asked c (frames_of blocks belows)) l ≡ Some (get_or (labels_of asked c (frames_of blocks belows)) l []) = slice_get-get_or (labels_of asked c (frames_of blocks belows)) l [] (t.0.there a) in
                cc

            same_results : (n : ℕ) → runs.Targets asked c n results l (frames_of blocks belows) ks Rest → (kind : Option ValueType) → slice_get (labels result blocks) l ≡ Some kind → asked rule.Operand → results_of kind ≡ results
            same_results zero t kind found a = subst (λ o. IfSome o (λ other. other ≡ results)) (at_label kind found) t.0.same
            same_results (suc n) t kind found a = subst (λ o. IfSome o (λ other. other ≡ results)) (at_label kind found) (t.0.same a)

            after : (n : ℕ) → runs.Targets asked c n results l (frames_of blocks belows) ks Rest → (kind : Option ValueType) → slice_get (labels result blocks) l ≡ Some kind → after_target n kind blocks s next ≡ Breaks r → ⊥
            after zero t kind found e =
                jump_follows (I32 ∷ results_of kind) blocks s belows ks t.2 below h
                (λ o. let w = t.1 o in record { rest = w.rest; split = w.split ∙ ap (λ l. I32 ∷ (l ++ w.rest)) (sym (same_results zero t kind found o)) }) t.3
                (sym (ap (pop I32 s) (λ i s. result_all kind s (λ s. next None blocks dead) i)) ∙ e)
            after (suc n) t kind found e =
                goes (Some (record { owed = n; wanted = Some kind })) blocks s results belows ks (λ a. sym (same_results (suc n) t kind found a)) below h t.1 e

            by_label : (o : Option (Option ValueType)) → slice_get (labels result blocks) l ≡ o → with_found rule.Label o (λ kind. need rule.Operand (agrees w kind) (after_target n kind blocks s next)) ≡ Breaks r → ⊥
            by_label None none e = let same : rule.Label ≡ r = cc in there n t none (subst asked (sym same) is)
            by_label (Some kind) found e =
                after n t kind found (need_follows rule.Operand (agrees w kind) (after_target n kind blocks s next) (λ a. agrees_by asked w kind results wants a (same_results n t kind found a)) e)

        code_follows : (o : Op) (blocks : List Opened) (s : Stack) (belows : List (List ValueType)) (ks : List ValueType) → AreBelow blocks belows → Is s ks → runs.Does asked c o (frames_of blocks belows) ks Rest
            → step m (signatures m) locals result None o blocks s next ≡ Breaks r → ⊥
        code_follows (op.Plain p) blocks s belows ks below h t e =
            let a = plain_follows (labels_of asked c (frames_of blocks belows)) p s (λ s. next None blocks s) ks t.0 h t.1 e in
            goes None blocks a.0 [] belows t.0 tt below a.2 t.2 a.1
        code_follows op.Unreachable blocks s belows ks below h t e = goes None blocks dead [] belows t.0 tt below tt t.1 e
        code_follows (op.Block kind) blocks s belows ks below h t e = goes None (open_of opener.Block kind s ∷ blocks) fresh [] (ks ∷ belows) [] tt (h, below) refl t e
        code_follows (op.Loop kind) blocks s belows ks below h t e = goes None (open_of opener.Loop kind s ∷ blocks) fresh [] (ks ∷ belows) [] tt (h, below) refl t e
        code_follows (op.If kind) blocks s belows ks below h t e =
            let a = moves_follows (I32 ∷ []) None s (λ s. next None (open_of opener.If kind s ∷ blocks) fresh) ks t.0 h t.1 e in
            goes None (open_of opener.If kind a.0 ∷ blocks) fresh [] (t.0 ∷ belows) [] tt (a.2, below) refl t.2 a.1
        code_follows op.Else [] s belows ks below h t e = absurd t
        code_follows op.Else (o ∷ blocks) s [] ks below h t e = absurd below
        code_follows op.Else (o ∷ blocks) s (b ∷ belows) ks below h t e =
            let a = need_follows rule.Result (is_if o.opener) (need rule.Result (fits o.result s) (next None (open_of opener.Else o.result o.below ∷ blocks) fresh)) (λ q. if_complete asked m locals result o.opener t.0) e in
            let d = need_follows rule.Result (fits o.result s) (next None (open_of opener.Else o.result o.below ∷ blocks) fresh) (λ q. fits_complete o.result s (subst (Is s) (t.1 q) h)) a in
            goes None (open_of opener.Else o.result o.below ∷ blocks) fresh [] (b ∷ belows) [] tt below refl t.2 d
        code_follows op.End [] s belows ks below h t e = absurd t
        code_follows op.End (o ∷ blocks) s [] ks below h t e = absurd below
        code_follows op.End (o ∷ blocks) s (b ∷ belows) ks below h t e =
            let a = need_follows rule.Result (fits o.result s) (need rule.Result (may_end o.opener o.result) (next None blocks (push_result o.result o.below))) (λ q. fits_complete o.result s (subst (Is s) (t.0 q) h)) e in
            let d = need_follows rule.Result (may_end o.opener o.result) (next None blocks (push_result o.result o.below)) (λ q. may_end_complete o.opener o.result (t.1 q)) a in
            goes None blocks (push_result o.result o.below) [] belows (results_of o.result ++ b) tt below.1 (push_result_is o.result o.below b below.0) t.2 d
        code_follows (op.Br l) blocks s belows ks below h t e = at_label (slice_get (labels result blocks) l) refl e
          where
            at_label : (o : Option (Option ValueType)) → slice_get (labels result blocks) l ≡ o → with_found rule.Label o (λ kind. pop_result kind s (λ s. next None blocks dead)) ≡ Breaks r → ⊥
            at_label None none e = none_follows l blocks belows below none t.0 t.1 e
            at_label (Some kind) found e =
                let same : results_of kind ≡ t.0 = some_follows l blocks belows below kind found t.0 t.1 in
                jump_follows (results_of kind) blocks s belows ks t.3 below h (subst (λ ts. asked rule.Operand → StartsWith ts ks) (sym same) t.2) t.4 (sym (result_all kind s (λ s. next None blocks dead)) ∙ e)
        code_follows (op.BrIf l) blocks s belows ks below h t e = at_label (slice_get (labels result blocks) l) refl e
          where
            at_label : (o : Option (Option ValueType)) → slice_get (labels result blocks) l ≡ o → with_found rule.Label o (λ kind. pop I32 s (λ s. pop_result kind s (λ s. next None blocks (push_result kind s)))) ≡ Breaks r → ⊥
            at_label None none e = none_follows l blocks belows below none t.0 t.1 e
            at_label (Some kind) found e =
                let same : results_of kind ≡ t.0 = some_follows l blocks belows below kind found t.0 t.1 in
                let a = moves_follows (I32 ∷ results_of kind) kind s (λ s. next None blocks s) ks t.2 h (subst (λ ts. Takes asked (I32 ∷ ts) ts ks t.2) (sym same) t.3)
                (sym (ap (pop I32 s) (λ i s. result_all kind s (λ s. next None blocks (push_result kind s)) i)) ∙ e) in
                goes None blocks a.0 [] belows t.2 tt below a.2 t.4 a.1
        code_follows (op.BrTable count) blocks s belows ks below h t e = goes (Some (record { owed = count; wanted = None })) blocks s t.0 belows ks tt below h t.1 e
        code_follows (op.Target l) blocks s belows ks below h t e = absurd t
        code_follows op.Return blocks s belows ks below h t e =
            jump_follows (results_of result) blocks s belows ks t.1 below h t.0 t.2 (sym (result_all result s (λ s. next None blocks dead)) ∙ e)
        code_follows (op.Call f) blocks s belows ks below h t e = at_type (type_of m f) refl e
          where
            at_type : (o : Option FunctionType) → type_of m f ≡ o → with_found rule.Index o (λ t. call t s (λ s. next None blocks s)) ≡ Breaks r → ⊥
            at_type None none e = let same : rule.Index ≡ r = cc in let no = t.1.there (subst asked (sym same) is) in cc
            at_type (Some u) found e =
                let same : u ≡ t.0 = subst (λ o. IfSome o (λ other. other ≡ t.0)) found t.1.same in
                call_follows u (one_of m locals result one f u found) blocks s belows ks t.2 below h (subst (λ u. Takes asked (reverse u.params) (reverse u.results) ks t.2) (sym same) t.3) t.4 e
        code_follows (op.CallIndirect x) blocks s belows ks below h t e =
            at_type (slice_get m.types x) refl (need_follows rule.Index (has_table m) (with_found rule.Index (slice_get m.types x) (λ t. pop I32 s (λ s. call t s (λ s. next None blocks s)))) (λ q. table_follows (t.0 q)) e)
          where
            at_type : (o : Option FunctionType) → slice_get m.types x ≡ o → with_found rule.Index o (λ t. pop I32 s (λ s. call t s (λ s. next None blocks s))) ≡ Breaks r → ⊥
            at_type None none e = let same : rule.Index ≡ r = cc in let no = t.2.there (subst asked (sym same) is) in cc
            at_type (Some u) found e =
                let same : u ≡ t.1 = subst (λ o. IfSome o (λ other. other ≡ t.1)) found t.2.same in
                let takes : Takes asked (I32 ∷ reverse u.params) (reverse u.results) ks t.3 = subst (λ u. Takes asked (I32 ∷ reverse u.params) (reverse u.results) ks t.3) (sym same) t.4 in
                let a = moves_follows (I32 ∷ reverse u.params) (slice_get u.results 0) s (λ s. next None blocks s) ks t.3 h (subst (λ gives. Takes asked (I32 ∷ reverse u.params) gives ks t.3) (one x u found) takes) e in
                goes None blocks a.0 [] belows t.3 tt below a.2 t.5 a.1

        step_follows : (table : Option Table) (o : Op) (blocks : List Opened) (s : Stack) (results : List ValueType) (belows : List (List ValueType)) (ks : List ValueType)
            → Wanted asked table results → AreBelow blocks belows → Is s ks → runs.Next asked c (place_of table results) o (frames_of blocks belows) ks Rest
            → step m (signatures m) locals result table o blocks s next ≡ Breaks r → ⊥
        step_follows None o blocks s results belows ks wanted below h t e = code_follows o blocks s belows ks below h t e
        step_follows (Some u) (op.Target l) blocks s results belows ks wanted below h t e = target_follows u.owed u.wanted l blocks s results belows ks wanted below h t e
        step_follows (Some u) (op.Plain p) blocks s results belows ks wanted below h t e = absurd t
        step_follows (Some u) op.Unreachable blocks s results belows ks wanted below h t e = absurd t
        step_follows (Some u) (op.Block kind) blocks s results belows ks wanted below h t e = absurd t
        step_follows (Some u) (op.Loop kind) blocks s results belows ks wanted below h t e = absurd t
        step_follows (Some u) (op.If kind) blocks s results belows ks wanted below h t e = absurd t
        step_follows (Some u) op.Else blocks s results belows ks wanted below h t e = absurd t
        step_follows (Some u) op.End blocks s results belows ks wanted below h t e = absurd t
        step_follows (Some u) (op.Br l) blocks s results belows ks wanted below h t e = absurd t
        step_follows (Some u) (op.BrIf l) blocks s results belows ks wanted below h t e = absurd t
        step_follows (Some u) (op.BrTable count) blocks s results belows ks wanted below h t e = absurd t
        step_follows (Some u) op.Return blocks s results belows ks wanted below h t e = absurd t
        step_follows (Some u) (op.Call f) blocks s results belows ks wanted below h t e = absurd t
        step_follows (Some u) (op.CallIndirect x) blocks s results belows ks wanted below h t e = absurd t

      last_follows : (table : Option Table) (blocks : List Opened) (s : Stack) (results : List ValueType) (belows : List (List ValueType)) (ks : List ValueType)
          → AreBelow blocks belows → Is s ks → runs.Last asked c (place_of table results) (frames_of blocks belows) ks → at_last result table blocks s ≡ Breaks r → ⊥
      last_follows None [] s results belows ks below h t e =
          let a = need_follows rule.Result (fits result s) Passes (λ q. fits_complete result s (subst (Is s) (t q) h)) e in cc
      last_follows None (o ∷ blocks) s results [] ks below h t e = absurd below
      last_follows None (o ∷ blocks) s results (b ∷ belows) ks below h t e = absurd t
      last_follows (Some u) blocks s results belows ks below h t e = absurd t

      pub refute : (ops : List Op) (table : Option Table) (blocks : List Opened) (s : Stack) (results : List ValueType) (belows : List (List ValueType)) (ks : List ValueType)
          → Wanted asked table results → AreBelow blocks belows → Is s ks → runs.Runs asked c ops (place_of table results) (frames_of blocks belows) ks
          → run m (signatures m) locals result ops table blocks s ≡ Breaks r → ⊥
      refute [] table blocks s results belows ks wanted below h t e = last_follows table blocks s results belows ks below h t e
      refute (o ∷ ops) table blocks s results belows ks wanted below h t e =
          step_follows (run m (signatures m) locals result ops) (runs.Runs asked c ops) (λ table blocks s results belows ks wanted below h t e. refute ops table blocks s results belows ks wanted below h t e)
          table o blocks s results belows ks wanted below h t e
