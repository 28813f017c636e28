-- Messages as they are written.
use Rattle.std.proofs.Common.{◌≡◌, ◌<◌, ◌⊎◌, inl, inr, List, [], ◌∷◌, length, map, Option, Some, None, Result, Ok, Err, refl, sym, ap, ◌∙◌, subst}
use Rattle.std.specs.Prelude.{IfOk}
use Rattle.mo_types.specs.declared.datum.Datum.{Datum}
use Rattle.mo_types.specs.declared.node.Node.{Node}
use Rattle.mo_types.specs.declared.node.TypeId.{TypeId}
use Rattle.mo_types.specs.Code.{Code}
use Rattle.mo_types.specs.Graph.{Slot, head_at}
use Rattle.mo_types.specs.Heads.{map_option}
use Rattle.mo_types.specs.Values.{Values, flat, tree, HaveTypes}
use Rattle.mo_values.specs.Messages.{joined, plain_at, plain_each}
use Rattle.mo_values.specs.Shapes.{Bytes, Shapes, NoShape, AShape, shapes}
use Rattle.mo_meaning.specs.Coding.{Coding, IsFaithful}
use Rattle.mo_meaning.specs.Messages.{coded, joined_values}
use Rattle.mo_meaning.specs.Turns.{most_bytes}
use Rattle.mo_machine.specs.Messages.{message_of, plain_values}
use Rattle.mo_machine.specs.Values.{Value, Code as FunctionCode, shapes_list}
use Rattle.arena_messages.proofs.Labelled.{Split, split}
use Rattle.arena_equality.specs.Own.{AreOwnLabels}
use Rattle.arena_equality.proofs.Typed.{plain_typed}
use Rattle.kept_forms.proofs.Trees.{tree_full, IsFull}
use Rattle.arena_coding.proofs.Trees.{put_first, short_not_coded, IsShort}

module _ (types : List Slot) (own : AreOwnLabels types) where
  abbrev head : TypeId → Node TypeId
  head = head_at types

  -- what is written is of the types, or there are fewer values
  abbrev Fits : List TypeId → Values → Type 0
  Fits ts v = IsFull v × (HaveTypes head ts v ⊎ IsShort head ts v)

  none_left : (vs : List Values) → Some [] ≡ Some vs → [] ≡ vs
  none_left vs e = cc

  fits : (ts : List TypeId) (vs : Shapes FunctionCode) (ms : List Values) → plain_each head (map (λ t. Some t) ts) vs ≡ Some ms → Fits ts (joined ms)
  fits [] vs ms e = let Of : List Values → Type 0 = λ x. Fits [] (joined x) in subst Of (none_left ms e) (tt, inl tt)
  fits (t ∷ ts) NoShape ms e = let Of : List Values → Type 0 = λ x. Fits (t ∷ ts) (joined x) in subst Of (none_left ms e) (tt, inr tt)
  fits (t ∷ ts) (AShape v vs) ms e =
      let s : Split (plain_at head (Some t) v) (plain_each head (map (λ t. Some t) ts) vs) ms = split (plain_at head (Some t) v) (plain_each head (map (λ t. Some t) ts) vs) ms e in
      let Of : List Values → Type 0 = λ x. Fits (t ∷ ts) (joined x) in
      subst Of (sym s.whole) (put_first head t ts s.first (joined s.rest) (plain_typed head own t v s.first s.first_is) (fits ts vs s.rest s.rest_is))

  module _ (ids : List TypeId) (vs : List Value) (parts : List Datum) where
    -- the values whose parts these are
    record Found : Type 0 where
      pub values : Values
      pub are : plain_values types ids vs ≡ Some values
      pub tree_is : tree parts ≡ values
      pub fit : HaveTypes head ids values ⊎ IsShort head ids values

    found_by : (o : Option (List Values)) → plain_each head (map (λ t. Some t) ids) (shapes (shapes_list vs)) ≡ o → Some parts ≡ map_option flat (joined_values o) → Found
    found_by None e h = absurd (let f : Some parts ≡ None = h in cc)
    found_by (Some ms) e h =
        let f = fits ids (shapes (shapes_list vs)) ms e in
        let g : Some parts ≡ Some (flat (joined ms)) = h in
        let same : parts ≡ flat (joined ms) = cc in
        record { values = joined ms; are = ap joined_values e; tree_is = ap tree same ∙ tree_full (joined ms) f.0; fit = f.1 }

    found : Some parts ≡ map_option flat (plain_values types ids vs) → Found
    found h = found_by (plain_each head (map (λ t. Some t) ids) (shapes (shapes_list vs))) refl h

    -- the message is written
    pub is_written : (coding : Coding) → IsFaithful coding → (bytes : Bytes) → Some parts ≡ map_option flat (plain_values types ids vs) → Code head ids (tree parts) bytes → message_of coding types ids vs ≡ Some bytes
    is_written coding faithful bytes h code =
        let f = found h in
        let Of : Values → Type 0 = λ v. Code head ids v bytes in
        ap (λ (o : Option Values). coded coding types ids o) f.are ∙ ap (λ (b : Bytes). Some b) (faithful.codes types ids f.values bytes (subst Of f.tree_is code))

    -- there is none
    pub is_long : (coding : Coding) → IsFaithful coding → Some parts ≡ map_option flat (plain_values types ids vs) → (HaveTypes head ids (tree parts) → ⊥)
        → (bytes : Bytes) × (message_of coding types ids vs ≡ Some bytes) × (most_bytes < length bytes)
    is_long coding faithful h not =
        let f = found h in
        let Of : Values → Type 0 = λ v. HaveTypes head ids v in
        (coding.code types ids f.values, ap (λ (o : Option Values). coded coding types ids o) f.are, faithful.long types ids f.values (λ bytes code. by f f.fit bytes code))
      where
        by : (f : Found) → HaveTypes head ids f.values ⊎ IsShort head ids f.values → (bytes : Bytes) → Code head ids f.values bytes → ⊥
        by f (inl typed) bytes code = let Of : Values → Type 0 = λ v. HaveTypes head ids v in not (subst Of (sym f.tree_is) typed)
        by f (inr short) bytes code = short_not_coded head ids f.values bytes short code

  missing_by : (coding : Coding) (ids : List TypeId) (o : Option Values) → None ≡ map_option flat o → coded coding types ids o ≡ None
  missing_by coding ids None h = refl
  missing_by coding ids (Some v) h = absurd (let f : None ≡ Some (flat v) = h in cc)

  pub is_missing : (coding : Coding) (ids : List TypeId) (vs : List Value) → None ≡ map_option flat (plain_values types ids vs) → message_of coding types ids vs ≡ None
  is_missing coding ids vs h = missing_by coding ids (plain_values types ids vs) h

-- a fact of what is there follows from another
pub ok_more : {A E : Type 0} (P Q : A → Type 0) (r : Result A E) → IfOk r P → ((a : A) → P a → Q a) → IfOk r Q
ok_more P Q (Ok a) p more = more a p
ok_more P Q (Err e) p more = tt
