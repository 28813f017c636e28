-- What cells hold.
use Rattle.std.proofs.Common.{◌≡◌, ℕ, zero, suc, arith, ◌+◌, ◌<◌, ◌≤◌, List, [], ◌∷◌, ◌++◌, length, take, get_or, Option, Some, None, refl, sym, ap, ◌∙◌, subst, add-one}
use Rattle.std.proofs.Math.Seq.{take-suc}
use Rattle.std.proofs.lemmas.List.{append-nil, take_all}
use Rattle.mo_machine.specs.Acts.{Store}
use Rattle.mo_machine.specs.Cells.{cell_of, held}
use Rattle.mo_machine.specs.Values.{Value}
use Rattle.typed_tree.specs.Language.{Functions}
use Rattle.value_arena.specs.declared.node.Node.{Node}
use Rattle.value_arena.specs.declared.node.ValueId.{ValueId}
use Rattle.value_arena.specs.Growth.{AreWithin, IsWithin}
use Rattle.value_arena.specs.Meaning.{value_of, values}
use Rattle.arena_states.specs.Standing.{list_of}
use Rattle.arena_coding.proofs.Parts.{one_below}
use Rattle.arena_bodies.proofs.Made.{below_more, list_more}
use Rattle.arena_saving.specs.Saving.{and_held, held_in, AreHeld}

and_append : (o : Option Value) (xs ys : List Value) → and_held o (xs ++ ys) ≡ and_held o xs ++ ys
and_append None xs ys = refl
and_append (Some v) xs ys = refl

held_append : (s : Store) (cs ds : List Value) → held_in s (cs ++ ds) ≡ held_in s cs ++ held_in s ds
held_append s [] ds = refl
held_append s (c ∷ cs) ds = ap (λ (l : List Value). and_held (held s (cell_of c)) l) (held_append s cs ds) ∙ and_append (held s (cell_of c)) (held_in s cs) (held_in s ds)

-- an item is what stands at its place, whatever stands for those that are not there
pub read_there : {A : Type 0} (xs : List A) (i : ℕ) (d : A) → i < length xs → get_or xs i d ≡ get_or xs i (get_or xs i d)
read_there [] i d h = absurd (omega (arith, h))
read_there (x ∷ xs) zero d h = refl
read_there (x ∷ xs) (suc i) d h = read_there xs i d (omega (arith, h))

-- one of them is among the nodes
pub cell_within : (ns : List Node) (cells : List ValueId) (i : ℕ) (c : ValueId) → AreWithin ns cells → i < length cells → c ≡ get_or cells i c → IsWithin ns c
cell_within ns cells i c within below is = let Of : ValueId → Type 0 = λ x. IsWithin ns x in subst Of (sym is) (one_below (length ns) i c cells within below)

module _ (ns : List Node) (store : List ValueId) where
  pub held_one : (cell id : ValueId) (before after : List ValueId) → ((groups : ℕ → Functions) → Some (value_of groups ns id) ≡ held (list_of groups ns store) (cell_of (value_of groups ns cell))) → IsWithin ns id
      → after ≡ before ++ id ∷ [] → AreHeld ns store (cell ∷ []) before after
  held_one cell id before after found within is = record {
    within = λ h. let Of : List ValueId → Type 0 = λ l. AreWithin ns l in subst Of (sym is) (below_more (length ns) before id h within);
    means = λ groups.
        ap (λ (l : List ValueId). list_of groups ns l) is
        ∙ list_more (values groups ns) before id
        ∙ ap (λ (o : Option Value). list_of groups ns before ++ and_held o []) (found groups);
  }

  pub held_none : (cell : ValueId) (before after : List ValueId) → ((groups : ℕ → Functions) → None ≡ held (list_of groups ns store) (cell_of (value_of groups ns cell))) → after ≡ before
      → AreHeld ns store (cell ∷ []) before after
  held_none cell before after none is = record {
    within = λ h. let Of : List ValueId → Type 0 = λ l. AreWithin ns l in subst Of (sym is) h;
    means = λ groups.
        ap (λ (l : List ValueId). list_of groups ns l) is
        ∙ sym (append-nil (list_of groups ns before))
        ∙ ap (λ (o : Option Value). list_of groups ns before ++ and_held o []) (none groups);
  }

  pub held_begin : (found : List ValueId) → found ≡ [] → AreHeld ns store [] [] found
  held_begin found is = record {
    within = λ h. let Of : List ValueId → Type 0 = λ l. AreWithin ns l in subst Of (sym is) h;
    means = λ groups. ap (λ (l : List ValueId). list_of groups ns l) is;
  }

  pub held_on : (cells : List ValueId) (i : ℕ) (c : ValueId) (mid after : List ValueId) → i < length cells → c ≡ get_or cells i c → AreHeld ns store (take i cells) [] mid → AreHeld ns store (c ∷ []) mid after
      → AreHeld ns store (take (i + 1) cells) [] after
  held_on cells i c mid after below read one two =
      let longer : take (i + 1) cells ≡ take i cells ++ c ∷ [] =
      ap (λ (n : ℕ). take n cells) (add-one i) ∙ take-suc cells i c below ∙ ap (λ (x : ValueId). take i cells ++ x ∷ []) (sym read) in
      record {
        within = λ h. two.within (one.within h);
        means = λ groups.
            let s : Store = list_of groups ns store in
            two.means groups
            ∙ ap (λ (l : List Value). l ++ held_in s (value_of groups ns c ∷ [])) (one.means groups)
            ∙ sym (held_append s (list_of groups ns (take i cells)) (value_of groups ns c ∷ []))
            ∙ ap (λ (l : List Value). held_in s l) (sym (list_more (values groups ns) (take i cells) c) ∙ ap (λ (l : List ValueId). list_of groups ns l) (sym longer));
      }

  pub held_whole : (cells : List ValueId) (i : ℕ) (found : List ValueId) → length cells ≤ i → AreHeld ns store (take i cells) [] found → AreHeld ns store cells [] found
  held_whole cells i found all h = let Of : List ValueId → Type 0 = λ l. AreHeld ns store l [] found in subst Of (take_all i cells all) h
