-- All turns over the values that wait.
use Rattle.std.proofs.Common.{◌≡◌, ℕ, ◌+◌, ◌<◌, List, [], ◌∷◌, ◌++◌, length, reverse, Bool, true, false, ◌&&◌, Option, Some, None, refl, sym, ap, ◌∙◌, subst, arith}
use Rattle.std.specs.Prelude.{is_some}
use Rattle.std.proofs.lemmas.List.{append-nil, reverse-append}
use Rattle.mo_types.specs.declared.datum.Datum.{Datum}
use Rattle.mo_types.specs.declared.node.TypeId.{TypeId}
use Rattle.mo_types.specs.Graph.{Slot, head_at}
use Rattle.mo_types.specs.Heads.{map_option}
use Rattle.mo_types.specs.Values as message
use Rattle.mo_types.specs.Values.{flat}
use Rattle.mo_values.specs.Messages.{value_or_none, plain}
use Rattle.typed_tree.specs.Language.{Functions}
use Rattle.mo_machine.specs.Values.{shape_of}
use Rattle.value_arena.specs.declared.node.Node.{Node}
use Rattle.value_arena.specs.declared.node.ValueId.{ValueId}
use Rattle.value_arena.specs.Meaning.{value_of, values}
use Rattle.value_arena.specs.Rows.{no_groups}
use Rattle.arena_messages.specs.declared.waiting.AtType.{AtType}
use Rattle.arena_messages.specs.Asking.{IsAsked, IsPut}
use Rattle.arena_messages.specs.Goes.{goes, all_go, parts, all_parts}
use Rattle.arena_messages.specs.Inside.{total}
use Rattle.arena_messages.specs.Waiting.{typed, AreBelow, item, items}
use Rattle.arena_messages.proofs.Steps.{and_swap, and_true, total_append, all_append}
use Rattle.arena_messages.proofs.Waits.{items_append, below_front, below_back}

module _ (slots : List Slot) (ns : List Node) where
  -- whether all that wait go into the message is whether this value does
  pub record Going (start : AtType) (waiting : List AtType) : Type 0 where
    pub same : (groups : ℕ → Functions) → all_go (head_at slots) (items (values groups ns) waiting) ≡ goes (head_at slots) (item (values groups ns) start)
    pub within : AreBelow (length ns) waiting

  -- the parts of what waits, the next one first, are the rest of those of this value
  pub record Putting (start : AtType) (waiting : List AtType) (before : List Datum) : Type 0 where
    pub same : (groups : ℕ → Functions) → before ++ all_parts (head_at slots) (items (values groups ns) waiting) ≡ parts (head_at slots) (item (values groups ns) start)
    pub going : (groups : ℕ → Functions) → all_go (head_at slots) (items (values groups ns) waiting) ≡ true
    pub within : AreBelow (length ns) waiting

  and_one : (b : Bool) → (b && true) ≡ b
  and_one true = refl
  and_one false = refl

  pub going_start : (t : TypeId) (id : ValueId) (waiting : List AtType) → waiting ≡ typed t id ∷ [] → id.index < length ns → Going (typed t id) waiting
  going_start t id waiting is within =
      let at : List AtType → Type 0 = λ l. Going (typed t id) l in
      subst at (sym is) (record { same = λ groups. and_one (goes (head_at slots) (item (values groups ns) (typed t id))); within = (within, tt) })

  pub next_within : (start x : AtType) (waiting rest : List AtType) → Going start waiting → waiting ≡ rest ++ x ∷ [] → x.value.index < length ns
  next_within start x waiting rest g is =
      let at : List AtType → Type 0 = λ l. AreBelow (length ns) l in
      (below_back (length ns) rest (x ∷ []) (subst at is g.within)).0

  asked_same : (start x : AtType) (waiting rest new : List AtType) (b : Bool) → Going start waiting → waiting ≡ rest ++ x ∷ [] → IsAsked slots ns x b rest new → (groups : ℕ → Functions)
      → (b && all_go (head_at slots) (items (values groups ns) new)) ≡ goes (head_at slots) (item (values groups ns) start)
  asked_same start x waiting rest new b g is a groups =
      let vs = values groups ns in
      sym (a.goes groups)
      ∙ and_swap (goes (head_at slots) (item vs x)) (all_go (head_at slots) (items vs rest))
      ∙ ap (λ c. all_go (head_at slots) (items vs rest) && c) (sym (and_one (goes (head_at slots) (item vs x))))
      ∙ sym (ap (λ l. all_go (head_at slots) (items vs l)) is ∙ ap (all_go (head_at slots)) (items_append vs rest (x ∷ [])) ∙ all_append (head_at slots) (items vs rest) (items vs (x ∷ [])))
      ∙ g.same groups

  pub going_on : (start x : AtType) (waiting rest new : List AtType) → Going start waiting → waiting ≡ rest ++ x ∷ [] → IsAsked slots ns x true rest new → Going start new
  going_on start x waiting rest new g is a =
      let at : List AtType → Type 0 = λ l. AreBelow (length ns) l in
      record { same = λ groups. asked_same start x waiting rest new true g is a groups; within = a.within (below_front (length ns) rest (x ∷ []) (subst at is g.within)) }

  pub refused : (start x : AtType) (waiting rest new : List AtType) → Going start waiting → waiting ≡ rest ++ x ∷ [] → IsAsked slots ns x false rest new → (groups : ℕ → Functions)
      → false ≡ goes (head_at slots) (item (values groups ns) start)
  refused start x waiting rest new g is a groups = asked_same start x waiting rest new false g is a groups

  pub less_waits : (x : AtType) (waiting rest new : List AtType) → waiting ≡ rest ++ x ∷ [] → IsAsked slots ns x true rest new → total (items (values no_groups ns) new) < total (items (values no_groups ns) waiting)
  less_waits x waiting rest new is a =
      let vs = values no_groups ns in
      let all : total (items vs waiting) ≡ total (items vs rest) + total (items vs (x ∷ [])) =
      ap (λ l. total (items vs l)) is ∙ ap total (items_append vs rest (x ∷ [])) ∙ total_append (items vs rest) (items vs (x ∷ [])) in
      omega (arith, all, a.smaller no_groups refl)

  pub gone : (start : AtType) (waiting : List AtType) → Going start waiting → waiting ≡ [] → (groups : ℕ → Functions) → true ≡ goes (head_at slots) (item (values groups ns) start)
  gone start waiting g is groups = sym (ap (λ l. all_go (head_at slots) (items (values groups ns) l)) is) ∙ g.same groups

  -- ---- parts

  pub putting_start : (t : TypeId) (id : ValueId) (waiting : List AtType) → waiting ≡ typed t id ∷ [] → id.index < length ns
      → ((groups : ℕ → Functions) → true ≡ is_some (plain (head_at slots) t (shape_of (value_of groups ns id)))) → Putting (typed t id) (reverse waiting) []
  putting_start t id waiting is within does =
      let at : List AtType → Type 0 = λ l. Putting (typed t id) (reverse l) [] in
      subst at (sym is) (record {
        same = λ groups. append-nil (parts (head_at slots) (item (values groups ns) (typed t id)));
        going = λ groups. and_one (goes (head_at slots) (item (values groups ns) (typed t id))) ∙ sym (does groups);
        within = (within, tt);
      })

  popped : (x : AtType) (waiting rest : List AtType) → waiting ≡ rest ++ x ∷ [] → reverse waiting ≡ x ∷ reverse rest
  popped x waiting rest is = ap reverse is ∙ reverse-append rest (x ∷ [])

  pub next_goes : (start x : AtType) (waiting rest : List AtType) (before : List Datum) → Putting start (reverse waiting) before → waiting ≡ rest ++ x ∷ [] → (groups : ℕ → Functions) → goes (head_at slots) (item (values groups ns) x) ≡ true
  next_goes start x waiting rest before g is groups =
      let vs = values groups ns in
      (and_true (goes (head_at slots) (item vs x)) (all_go (head_at slots) (items vs (reverse rest))) (sym (ap (λ l. all_go (head_at slots) (items vs l)) (popped x waiting rest is)) ∙ g.going groups)).0

  pub next_there : (start x : AtType) (waiting rest : List AtType) (before : List Datum) → Putting start (reverse waiting) before → waiting ≡ rest ++ x ∷ [] → x.value.index < length ns
  next_there start x waiting rest before g is = let at : List AtType → Type 0 = λ l. AreBelow (length ns) l in (subst at (popped x waiting rest is) g.within).0

  pub putting_on : (start x : AtType) (waiting rest new : List AtType) (before after : List Datum) → Putting start (reverse waiting) before → waiting ≡ rest ++ x ∷ [] → IsPut slots ns x (reverse rest) (reverse new) before after
      → Putting start (reverse new) after
  putting_on start x waiting rest new before after g is p =
      let at : List AtType → Type 0 = λ l. AreBelow (length ns) l in
      record {
        same = λ groups. let vs = values groups ns in p.puts groups ∙ sym (ap (λ l. before ++ all_parts (head_at slots) (items vs l)) (popped x waiting rest is)) ∙ g.same groups;
        going = λ groups.
            let vs = values groups ns in
            p.goes groups (and_true (goes (head_at slots) (item vs x)) (all_go (head_at slots) (items vs (reverse rest))) (sym (ap (λ l. all_go (head_at slots) (items vs l)) (popped x waiting rest is)) ∙ g.going groups)).1;
        within = p.within (subst at (popped x waiting rest is) g.within).1;
      }

  whole : (o : Option message.Values) → true ≡ is_some o → map_option flat o ≡ Some (flat (value_or_none o))
  whole None e = absurd (let f : true ≡ false = e in cc)
  whole (Some v) e = refl

  nothing : (o : Option message.Values) → false ≡ is_some o → map_option flat o ≡ None
  nothing None e = refl
  nothing (Some v) e = absurd (let f : false ≡ true = e in cc)

  pub all_put : (t : TypeId) (id : ValueId) (waiting : List AtType) (before : List Datum) → Putting (typed t id) (reverse waiting) before → waiting ≡ []
      → ((groups : ℕ → Functions) → true ≡ is_some (plain (head_at slots) t (shape_of (value_of groups ns id)))) → (groups : ℕ → Functions) → Some before ≡ map_option flat (plain (head_at slots) t (shape_of (value_of groups ns id)))
  all_put t id waiting before g is does groups =
      let vs = values groups ns in
      let end : before ≡ parts (head_at slots) (item vs (typed t id)) =
      sym (append-nil before) ∙ sym (ap (λ l. before ++ all_parts (head_at slots) (items vs (reverse l))) is) ∙ g.same groups in
      ap (λ l. Some l) end ∙ sym (whole (plain (head_at slots) t (shape_of (value_of groups ns id))) (does groups))

  pub none_put : (t : TypeId) (id : ValueId) → ((groups : ℕ → Functions) → false ≡ is_some (plain (head_at slots) t (shape_of (value_of groups ns id)))) → (groups : ℕ → Functions)
      → None ≡ map_option flat (plain (head_at slots) t (shape_of (value_of groups ns id)))
  none_put t id not groups = sym (nothing (plain (head_at slots) t (shape_of (value_of groups ns id))) (not groups))
