-- Which of the types of the rows have values.
use Rattle.std.proofs.Common.{◌≡◌, List, [], ◌∷◌, true, refl, sym, ap, subst}
use Rattle.std.specs.Prelude.{codes}
use Rattle.mo_types.specs.declared.node.Field.{Field}
use Rattle.mo_types.specs.declared.node.Node.{Node}
use Rattle.mo_types.specs.declared.node.Node.TheVariants as node
use Rattle.mo_types.specs.Heads.{tuple_of, object_of, variant_of, variable_of}
use Rattle.mo_types.specs.Sub.{Each, IsSomething}
use Rattle.mo_types.specs.Values.{types_of}
use Rattle.pattern_coverage.specs.Cover.{Tells}
use Rattle.pattern_coverage.specs.Inhabited.{always, HasValues, ByForm, ByParts, ByFields, ByTag, ByBound, EachHasValues, NoType, AType}
use Rattle.pattern_coverage.specs.Rows.{Sample, ANone, ABool, ABlob, AnAny, OptBool, OptNone, OneTag, TwoBools, Record, Itself, NoCell, NoElements, TwoTags, ANat, field, sample_head, sample_has}

by_form : (t : Sample) → always (sample_head t) ≡ true → sample_has t ≡ true
by_form ANone e = e
by_form Itself e = e
by_form NoCell e = e
by_form t e = refl

by_parts : (t : Sample) → IsSomething (tuple_of (sample_head t)) → sample_has t ≡ true
by_parts TwoBools h = refl
by_parts t h = absurd h

by_tag : (t : Sample) → IsSomething (variant_of (sample_head t)) → sample_has t ≡ true
by_tag OneTag h = refl
by_tag TwoTags h = refl
by_tag t h = absurd h

by_bound : (t : Sample) → IsSomething (variable_of (sample_head t)) → sample_has t ≡ true
by_bound ANone h = absurd h
by_bound t h = absurd h

fields_in : (x y : Node Sample) (fs gs : List (Field Sample)) → x ≡ node.Object fs → x ≡ node.Object gs → fs ≡ gs
fields_in x y fs gs e f = cc

by_fields : (t : Sample) (fs : List (Field Sample)) → sample_head t ≡ node.Object fs → Each (λ u. sample_has u ≡ true) (types_of fs) → sample_has t ≡ true
by_fields Record fs e h = refl
by_fields Itself fs e h = let s : fs ≡ _ = fields_in (sample_head Itself) (sample_head Itself) fs _ e refl in (subst (λ fs. Each (λ u. sample_has u ≡ true) (types_of fs)) s h).0
by_fields NoCell fs e h = let s : fs ≡ _ = fields_in (sample_head NoCell) (sample_head NoCell) fs _ e refl in (subst (λ fs. Each (λ u. sample_has u ≡ true) (types_of fs)) s h).0
by_fields t fs e h = absurd (subst IsSomething (sym (ap object_of e)) tt)

mutual
  told : (t : Sample) → HasValues sample_head t → sample_has t ≡ true
  told t (ByForm _ e) = by_form t e
  told t (ByParts _ ts e h) = by_parts t (subst IsSomething (sym (ap tuple_of e)) tt)
  told t (ByFields _ fs e h) = by_fields t fs e (all_told (types_of fs) h)
  told t (ByTag _ fs l f e i h) = by_tag t (subst IsSomething (sym (ap variant_of e)) tt)
  told t (ByBound _ b v e h) = by_bound t (subst IsSomething (sym (ap variable_of e)) tt)

  all_told : (ts : List Sample) → EachHasValues sample_head ts → Each (λ u. sample_has u ≡ true) ts
  all_told [] NoType = tt
  all_told (t ∷ ts) (AType _ _ h hs) = (told t h, all_told ts hs)

has_bool : HasValues sample_head ABool
has_bool = ByForm ABool refl

values : (t : Sample) → sample_has t ≡ true → HasValues sample_head t
values ABool e = has_bool
values ABlob e = ByForm ABlob refl
values AnAny e = ByForm AnAny refl
values OptBool e = ByForm OptBool refl
values OptNone e = ByForm OptNone refl
values OneTag e = ByTag OneTag _ (codes "b") (field (codes "b") ABool) refl refl has_bool
values TwoBools e = ByParts TwoBools _ refl (AType ABool _ has_bool (AType ABool _ has_bool NoType))
values Record e = ByFields Record _ refl (AType ABool _ has_bool (AType OptBool _ (ByForm OptBool refl) NoType))
values NoElements e = ByForm NoElements refl
values TwoTags e = ByTag TwoTags _ (codes "c") (field (codes "c") ABool) refl refl has_bool
values ANat e = ByForm ANat refl
values t e = cc

pub tells : Tells sample_head sample_has
tells t = (values t, told t)
