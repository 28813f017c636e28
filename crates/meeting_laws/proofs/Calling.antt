-- What is called, and the members of values.
use Rattle.std.proofs.Common.{◌≡◌, ◌≢◌, ℕ, Bool, true, false, List, [], ◌∷◌, length, Option, Some, None, refl, subst}
use Rattle.std.specs.Prelude.{cond, nat_eq, codes, not, ◌&&◌}
use Rattle.std.specs.Cmp.{unsigned_Decides}
use Rattle.std.specs.Option.{option_and_then}
use Rattle.std.specs.Str.{bytes_eq}
use Rattle.mo_scopes.specs.declared.library.Member.{Member}
use Rattle.mo_scopes.specs.declared.library.Member.TheVariants as member
use Rattle.mo_types.specs.declared.node.Node.{Node}
use Rattle.mo_types.specs.declared.node.Node.TheVariants as node
use Rattle.mo_types.specs.declared.node.Field.{Field}
use Rattle.mo_types.specs.Label.{label_id}
use Rattle.mo_types.specs.Sub.{Each, find}
use Rattle.typed_tree.specs.Instances.{types_in}
use Rattle.typed_tree.specs.OperationTypes.{Distinct}
use Rattle.typing_rules.specs.declared.condition.Condition.TheVariants as condition
use Rattle.typing_rules.specs.AbstractSyntax.{Bytes, TypeNode}
use Rattle.typing_rules.specs.Calls.{local_of, bound_terms, bound_questions, Instance, item_of, gives_item, items_of}
use Rattle.typing_rules.specs.Contexts.{Bound}
use Rattle.typing_rules.specs.Definitions.{Definitions, bound_at}
use Rattle.typing_rules.specs.Heads.{head}
use Rattle.typing_rules.specs.Members.{member_bound, iterator, array_members, text_members, part_of, member_type, constant_field}
use Rattle.typing_rules.specs.Terms.{Term, zipped, with_arguments, argument_or_itself}
use Rattle.typing_rules.specs.Terms as t
use Rattle.typing_rules.specs.Types.{ReadsEach}
use Rattle.typing_rules.specs.TypeScopes.{TypeScope}
use Rattle.proper_laws.specs.Proper.{IsProper, IsMet}
use Rattle.proper_laws.specs.Source.{IsTypeSource}
use Rattle.proper_laws.proofs.Meeting.{tests, meets_each, needs_each}
use Rattle.proper_laws.proofs.Putting.{put_proper}
use Rattle.proper_laws.proofs.Unfolding.{proper_met, bound_proper}
use Rattle.meeting_laws.proofs.Basics.{each_named, Whole, Known, Plain, Meeting, after, known, parts_of}
use Rattle.meeting_laws.proofs.Parts.{field_part, constant_field_part, local_parts}
use Rattle.meeting_laws.proofs.Standing.{reads_each}

-- ---- numbers that differ

abbrev differs_from : ℕ → List ℕ → Bool
differs_from n [] = true
differs_from n (m ∷ ms) = not (nat_eq n m) && differs_from n ms

abbrev all_differ : List ℕ → Bool
all_differ [] = true
all_differ (n ∷ ns) = differs_from n ns && all_differ ns

both_true : (a b : Bool) → (a && b) ≡ true → (a ≡ true) × (b ≡ true)
both_true true b e = (refl, e)
both_true false b e = cc

not_same : (b : Bool) → not b ≡ true → b ≡ true → ⊥
not_same true e f = cc
not_same false e f = cc

each_differs : (n : ℕ) (ms : List ℕ) → differs_from n ms ≡ true → Each (λ m. n ≢ m) ms
each_differs n [] e = tt
each_differs n (m ∷ ms) e =
    let h = both_true (not (nat_eq n m)) (differs_from n ms) e in
    (λ i. not_same (nat_eq n m) h.0 ((unsigned_Decides n m).1 i), each_differs n ms h.1)

pub distinct : (ns : List ℕ) → all_differ ns ≡ true → Distinct ns
distinct [] e = tt
distinct (n ∷ ns) e = let h = both_true (differs_from n ns) (all_differ ns) e in (each_differs n ns h.0, distinct ns h.1)

module _ (defs : Definitions) where
  unit_proper : IsProper defs t.unit
  unit_proper = (tt, λ e. cc)

  -- ---- members of modules

  pub member_proper : (m : Member) → IsProper defs (member_bound m).type
  member_proper member.DebugPrint = ((tt, tt), unit_proper)
  member_proper member.DebugTrap = ((tt, tt), tt)
  member_proper member.ErrorReject = ((tt, tt), tt)
  member_proper member.ErrorMessage = ((tt, tt), tt)
  member_proper member.ErrorCode = (
    (tt, tt),
    (
      (unit_proper, (unit_proper, (unit_proper, (unit_proper, (unit_proper, (tt, (((tt, tt), (tt, tt)), tt))))))),
      distinct (label_id (codes "system_fatal") ∷ label_id (codes "system_transient") ∷ label_id (codes "destination_invalid") ∷ label_id (codes "canister_reject") ∷ label_id (codes "canister_error")
          ∷ label_id (codes "future") ∷ label_id (codes "call_error") ∷ []) refl,
      (refl, (refl, (refl, (refl, (refl, (refl, (refl, tt))))))),
    ),
  )
  member_proper member.NatToText = ((tt, tt), tt)
  member_proper member.IntToText = ((tt, tt), tt)
  member_proper member.ArrayTabulate = ((tt, (((tt, tt), tt), tt)), tt)
  member_proper member.ArrayInit = ((tt, (tt, tt)), tt)
  member_proper member.ArrayFreeze = ((tt, tt), tt)
  member_proper member.ArrayThaw = ((tt, tt), tt)
  member_proper member.PrincipalFromActor = (((tt, tt, tt, tt), tt), tt)

  -- ---- members of values

  iterator_proper : (u : Term) → IsProper defs u → IsProper defs (iterator u)
  iterator_proper u h = (((tt, h), tt), (tt, tt))

  part_is : (o : Option (Field Term)) (v : Term) → ((f : Field Term) → o ≡ Some f → IsProper defs f.part) → part_of o ≡ Some v → IsProper defs v
  part_is None v k e = cc
  part_is (Some f) v k e = let g : f.part ≡ v = cc in subst (λ u. IsProper defs u) g (k f refl)

  in_array : (x : Bytes) (u v : Term) → IsProper defs u → member_type x (node.Array u) ≡ Some v → IsProper defs v
  in_array x u v h e =
      each_named (λ w. IsProper defs w) (λ y. bytes_eq x y) (array_members u) v ((tt, tt), ((tt, iterator_proper u h), ((tt, iterator_proper t.nat tt), tt))) e

  pub member_plain : (x : Bytes) (y : Node Term) (v : Term) → member_type x y ≡ Some v → Each (IsProper defs) (types_in y) → IsProper defs v
  member_plain x (node.Object fs) v e h = part_is (find x fs) v (λ f g. field_part (IsProper defs) x fs f h g) e
  member_plain x (node.Actor fs) v e h = part_is (find x fs) v (λ f g. field_part (IsProper defs) x fs f h g) e
  member_plain x (node.Array u) v e h = in_array x u v h.0 e
  member_plain x (node.MutArray u) v e h = in_array x u v h.0 e
  member_plain x node.Text v e h = each_named (λ w. IsProper defs w) (λ y. bytes_eq x y) text_members v ((tt, tt), ((tt, iterator_proper t.Character tt), tt)) e
  member_plain x (node.Number k) v e h = cc
  member_plain x y v e h = cc

  -- ---- what `for` goes over

  item_part : (y : Node Term) (v : Term) → item_of defs y ≡ Some v → Each (IsProper defs) (types_in y) → IsProper defs v
  item_part (node.Opt u) v e h = let g : u ≡ v = cc in subst (λ z. IsProper defs z) g h.0
  item_part node.Null v e h = let g : t.Bottom ≡ v = cc in subst (λ z. IsProper defs z) g tt
  item_part node.Bottom v e h = let g : t.Bottom ≡ v = cc in subst (λ z. IsProper defs z) g tt
  item_part (node.Number k) v e h = cc
  item_part y v e h = cc

  items_by : (q : Option (List Term × Term)) (v : Term) → ((r : Term) → q ≡ Some ([], r) → Plain defs r) → gives_item defs q ≡ Some v → Plain defs v
  items_by None v k e = cc
  items_by (Some ([], r)) v k e = λ w. item_part (head defs r) v e (parts_of defs r (known defs r (k r refl)) (head defs r) refl w)
  items_by (Some (u ∷ us, r)) v k e = cc

  field_by : (o : Option (Field Term)) (v : Term) → ((f : Field Term) → o ≡ Some f → Plain defs f.part) → gives_item defs (option_and_then (λ f. local_of (head defs f.part)) o) ≡ Some v → Plain defs v
  field_by None v k e = cc
  field_by (Some f) v k e = items_by (local_of (head defs f.part)) v (λ r g. λ w. (local_parts defs (head defs f.part) ([], r) g (parts_of defs f.part (known defs f.part (k f refl)) (head defs f.part) refl w)).1) e

  pub items_plain : (y : Node Term) (v : Term) → items_of defs y ≡ Some v → (Whole defs → Each (IsProper defs) (types_in y)) → Plain defs v
  items_plain y v e h = field_by (constant_field (codes "next") y) v (λ f g. λ w. constant_field_part (IsProper defs) (codes "next") y f g (h w)) e

  -- ---- functions with type parameters

  zipped_proper : (xs : List ℕ) (us : List Term) → Each (IsProper defs) us → Each (λ q. IsProper defs q.1) (zipped xs us)
  zipped_proper [] us h = tt
  zipped_proper (x ∷ xs) [] h = tt
  zipped_proper (x ∷ xs) (u ∷ us) h = (h.0, zipped_proper xs us h.1)

  argument_cond : (b : Bool) (u v : Term) → IsProper defs u → IsProper defs v → IsProper defs (cond b u v)
  argument_cond true u v h k = h
  argument_cond false u v h k = k

  argument_proper : (xs : List (ℕ × Term)) (v : ℕ) → Each (λ q. IsProper defs q.1) xs → IsProper defs (argument_or_itself xs v)
  argument_proper [] v h = tt
  argument_proper (x ∷ xs) v h = argument_cond (nat_eq x.0 v) x.1 (argument_or_itself xs v) h.0 (argument_proper xs v h.1)

  module _ (all : List (ℕ × Term)) (proper : Each (λ q. IsProper defs q.1) all) where
    bounds_known : (xs : List (ℕ × Term)) → Each (Known defs) (bound_terms defs all xs)
    bounds_known [] = tt
    bounds_known (x ∷ xs) = (
      known defs (with_arguments all (bound_at defs.parameters x.0)) (λ w.
          put_proper defs (argument_or_itself all) (λ v. argument_proper all v proper) (bound_at defs.parameters x.0) (bound_proper defs w x.0)),
      bounds_known xs,
    )

    put_met : (u : Term) → IsMet defs u → IsMet defs (with_arguments all u)
    put_met (t.Async a) h = put_proper defs (argument_or_itself all) (λ v. argument_proper all v proper) a h
    put_met u h = proper_met defs (with_arguments all u) (put_proper defs (argument_or_itself all) (λ v. argument_proper all v proper) u h)

  pub instance : (at : ℕ) (s : TypeScope) (b : Bound) (types : List TypeNode) → Known defs b.type → Each IsTypeSource types → Meeting defs (Instance defs at s b types) (Known defs)
  instance at s b types k h =
      tests defs (Known defs) condition.TypeArguments at (nat_eq (length types) (length b.generics)) _ (Known defs) (λ e.
      after defs (ReadsEach defs s types) _ _ (Known defs) (reads_each defs s types h) (λ us m.
      meets_each defs (Known defs) (bound_terms defs (zipped b.generics us) (zipped b.generics us)) _ (Known defs) (bounds_known (zipped b.generics us) (zipped_proper b.generics us m) (zipped b.generics us))
      (needs_each defs (Known defs) condition.Bound at (bound_questions defs (zipped b.generics us) (zipped b.generics us)) _ (Known defs) (λ q.
      λ w. put_met (zipped b.generics us) (zipped_proper b.generics us m) b.type (k w)))))
