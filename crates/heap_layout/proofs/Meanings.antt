-- What a word stands for it stands for later too.
use Rattle.std.proofs.Common.{◌≡◌, ℕ, ◌+◌, ◌*◌, ◌<◌, ◌^◌, ◌/◌, ◌%◌, List, [], ◌∷◌, length, refl, sym, ap, ◌∙◌, subst, arith}
use Rattle.mo_types.specs.declared.datum.Datum.{Datum}
use Rattle.mo_types.specs.declared.datum.Datum.TheVariants as part
use Rattle.mo_values.specs.Shapes.{Bytes, Leaf, Present, Tuple, Array, Object, Tag, Error, Cell, Future, Made, Function, Shapes, NoShape, AShape}
use Rattle.core_ir.specs.Choices.{nth}
use Rattle.core_ir.specs.Values.{Value, Handle}
use Rattle.core_ir.specs.Worlds.{MadeGroup}
use Rattle.heap_layout.specs.Words.{word_at}
use Rattle.heap_layout.specs.Ghosts.{Ghost, Fixed}
use Rattle.heap_layout.specs.Blocks.{Constant, constants, places, error_constants, shape_count}
use Rattle.heap_layout.specs.Means.{TextAt, MeansText, TextIn, MeansLeaf, HasConstants, Means, PartsMean, Rep, ValueAt, Reps}
use Rattle.heap_layout.specs.Heaps.{Plan, MemberAt, GroupAt}
use Rattle.heap_layout.specs.Later.{Later}
use Rattle.heap_layout.specs.Laws.{MeaningsStay}

module _ (g g' : Ghost) (m m' : List ℕ) (l : Later g g' m m') where
  text_later : (i : ℕ) (t : Bytes) → TextAt g m i t → TextAt g' m' i t
  text_later i t a = record {
    fixed = λ j lt. l.fixed (i + j) (a.fixed j lt);
    size = l.words i (subst (λ k. g.own k ≡ Fixed) (omega arith) (a.fixed 0 (omega arith))) ∙ a.size;
    bytes = λ j lt. ap (λ w. w / 256 ^ (j % 8) % 256) (l.words (i + 1 + j / 8) (subst (λ k. g.own k ≡ Fixed) (next j) (a.fixed (1 + j / 8) (inside j (length t) lt)))) ∙ a.bytes j lt;
  }
    where
      next : (j : ℕ) → i + (1 + j / 8) ≡ i + 1 + j / 8
      next j = omega arith

      inside : (j n : ℕ) → j < n → 1 + j / 8 < 1 + (n + 7) / 8
      inside j n lt = omega (arith, lt)

  means_text_later : (w : ℕ) (t : Bytes) → MeansText g m w t → MeansText g' m' w t
  means_text_later w t r = (r.0, r.1, r.2, text_later r.0 t r.3)

  text_in_later : (i : ℕ) (t : Bytes) → TextIn g m i t → TextIn g' m' i t
  text_in_later i t a = record { fixed = l.fixed i a.fixed; means = subst (λ w. MeansText g' m' w t) (sym (l.words i a.fixed)) (means_text_later (word_at m i) t a.means) }

  leaf_later : (w : ℕ) (p : Datum) → MeansLeaf g m w p → MeansLeaf g' m' w p
  leaf_later w part.Null r = r
  leaf_later w (part.Flag b) r = r
  leaf_later w (part.Number n) r = r
  leaf_later w (part.Char c) r = r
  leaf_later w (part.Text t) r = means_text_later w t r
  leaf_later w (part.Blob t) r = means_text_later w t r
  leaf_later w (part.Principal p) r = means_text_later w p r
  leaf_later w (part.Actor p) r = means_text_later w p r
  leaf_later w (part.Method p name) r = (r.0, r.1, r.2, text_in_later r.0 p r.3, text_in_later (r.0 + 1) name r.4)
  leaf_later w part.Present r = absurd r
  leaf_later w (part.Many n) r = absurd r
  leaf_later w (part.Record n) r = absurd r
  leaf_later w (part.Tag n) r = absurd r

  constants_later : (i : ℕ) (cs : List Constant) → HasConstants g m i cs → HasConstants g' m' i cs
  constants_later i [] r = tt
  constants_later i (c ∷ cs) r = (l.fixed (i + c.place) r.0, l.words (i + c.place) r.0 ∙ r.1, constants_later i cs r.2)

  mutual
    pub means_later : (w : ℕ) (v : Value) → Means g m w v → Means g' m' w v
    means_later w (Made (Leaf p) NoShape) r = leaf_later w p r
    means_later w (Made (Leaf p) (AShape v vs)) r = absurd r
    means_later w (Made (Error code message) NoShape) r = (r.0, r.1, r.2, constants_later r.0 (error_constants code) r.3, text_in_later (r.0 + 2) message r.4)
    means_later w (Made (Error code message) (AShape v vs)) r = absurd r
    means_later w (Made (Cell n) NoShape) r = (r.0 ∙ ap (λ x. 8 * x) (sym (l.cells n r.1)), (let h = l.held in let lt = r.1 in omega arith))
    means_later w (Made (Cell n) (AShape v vs)) r = absurd r
    means_later w (Made (Future n) NoShape) r = (r.0 ∙ ap (λ x. 8 * x) (sym (l.futures n r.1)), (let h = l.called in let lt = r.1 in omega arith))
    means_later w (Made (Future n) (AShape v vs)) r = absurd r
    means_later w (Made Tuple NoShape) r = r
    means_later w (Made Tuple (AShape v vs)) r = (r.0, r.1, r.2, constants_later r.0 (constants Tuple (shape_count (AShape v vs))) r.3, parts_later r.0 (places Tuple (shape_count (AShape v vs))) (AShape v vs) r.4)
    means_later w (Made Present inside) r = (r.0, r.1, r.2, constants_later r.0 (constants Present (shape_count inside)) r.3, parts_later r.0 (places Present (shape_count inside)) inside r.4)
    means_later w (Made Array inside) r = (r.0, r.1, r.2, constants_later r.0 (constants Array (shape_count inside)) r.3, parts_later r.0 (places Array (shape_count inside)) inside r.4)
    means_later w (Made (Object ls) inside) r = (r.0, r.1, r.2, constants_later r.0 (constants (Object ls) (shape_count inside)) r.3, parts_later r.0 (places (Object ls) (shape_count inside)) inside r.4)
    means_later w (Made (Tag label) inside) r = (r.0, r.1, r.2, constants_later r.0 (constants (Tag label) (shape_count inside)) r.3, parts_later r.0 (places (Tag label) (shape_count inside)) inside r.4)
    means_later w (Function h) r = (r.0 ∙ ap (λ x. 8 * (x + 2 * h.member)) (sym (l.groups h.group r.1)), (let k = l.made in let lt = r.1 in omega arith))

    parts_later : (i : ℕ) (os : List ℕ) (vs : Shapes Handle) → PartsMean g m i os vs → PartsMean g' m' i os vs
    parts_later i os NoShape r = tt
    parts_later i [] (AShape v vs) r = absurd r
    parts_later i (o ∷ os) (AShape v vs) r =
        (l.fixed (i + o) r.0, subst (λ x. x < 2 ^ 64) (sym (l.words (i + o) r.0)) r.1, subst (λ x. Means g' m' x v) (sym (l.words (i + o) r.0)) (means_later (word_at m (i + o)) v r.2), parts_later i os vs r.3)

  pub rep_later : (w : ℕ) (v : Value) → Rep g m w v → Rep g' m' w v
  rep_later w v r = record { small = r.small; means = means_later w v r.means }

  pub reps_later : (ws : List ℕ) (vs : List Value) → Reps g m ws vs → Reps g' m' ws vs
  reps_later [] [] r = tt
  reps_later [] (v ∷ vs) r = absurd r
  reps_later (w ∷ ws) [] r = absurd r
  reps_later (w ∷ ws) (v ∷ vs) r = (rep_later w v r.0, reps_later ws vs r.1)

  pub value_later : (i : ℕ) (v : Value) → ValueAt g m i v → ValueAt g' m' i v
  value_later i v a = record { fixed = l.fixed i a.fixed; rep = subst (λ w. Rep g' m' w v) (sym (l.words i a.fixed)) (rep_later (word_at m i) v a.rep) }

  pub member_later : (plan : Plan) (b code k : ℕ) → MemberAt plan g m b code k → MemberAt plan g' m' b code k
  member_later plan b code k e = record {
    entry_fixed = l.fixed _ e.entry_fixed;
    block_fixed = l.fixed _ e.block_fixed;
    entry = l.words _ e.entry_fixed ∙ e.entry;
    block = l.words _ e.block_fixed ∙ e.block;
  }

  -- a group, which stands where it stood
  pub group_later : (plan : Plan) (k : ℕ) (made : MadeGroup) → k < g.made → GroupAt plan g m (g.groups k) made → GroupAt plan g' m' (g'.groups k) made
  group_later plan k made lt a =
      subst (λ b. GroupAt plan g' m' b made) (sym (l.groups k lt))
      (record {
        members = λ j h. member_later plan (g.groups k) made.code j (a.members j h);
        seen = λ x h. value_later (g.groups k + (2 * plan.sizes made.code + x)) (nth _ made.seen x) (a.seen x h);
      })

pub same_later : (g : Ghost) (m : List ℕ) → Later g g m m
same_later g m = record { fixed = λ i e. e; words = λ i e. refl; held = omega arith; cells = λ n h. refl; made = omega arith; groups = λ k h. refl; called = omega arith; futures = λ n h. refl }

pub meanings_kept : MeaningsStay
meanings_kept g g' m m' l = (rep_later g g' m m' l, group_later g g' m m' l)
