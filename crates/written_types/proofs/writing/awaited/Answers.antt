use Rattle.std.proofs.Common.{◌∙◌, sym, refl}
use Rattle.abstract_types.proofs.TypeViews.{seen_Function, seen_Optional, seen_Use, seen_Tuple, seen_Array, seen_Object, seen_Variant, seen_Actor}
use Rattle.written_types.proofs.Making.{is_awaited, not_awaited}
use Rattle.written_types.proofs.writing.awaited.Goals as goal

pub returns-in-Async : goal.returns-in-Async
returns-in-Async c = is_awaited c.args.of.now c.in-Async.promised (sym c.get.ensures ∙ c.in-Async.is)

pub returns-in-Function : goal.returns-in-Function
returns-in-Function c = not_awaited c.args.of.now _ _ (sym c.get.ensures ∙ c.in-Function.is) (seen_Function _ _ _) refl

pub returns-in-Optional : goal.returns-in-Optional
returns-in-Optional c = not_awaited c.args.of.now _ _ (sym c.get.ensures ∙ c.in-Optional.is) (seen_Optional _) refl

pub returns-in-Use : goal.returns-in-Use
returns-in-Use c = not_awaited c.args.of.now _ _ (sym c.get.ensures ∙ c.in-Use.is) (seen_Use _ _) refl

pub returns-in-Tuple : goal.returns-in-Tuple
returns-in-Tuple c = not_awaited c.args.of.now _ _ (sym c.get.ensures ∙ c.in-Tuple.is) (seen_Tuple _) refl

pub returns-in-Array : goal.returns-in-Array
returns-in-Array c = not_awaited c.args.of.now _ _ (sym c.get.ensures ∙ c.in-Array.is) (seen_Array _ _) refl

pub returns-in-Object : goal.returns-in-Object
returns-in-Object c = not_awaited c.args.of.now _ _ (sym c.get.ensures ∙ c.in-Object.is) (seen_Object _) refl

pub returns-in-Variant : goal.returns-in-Variant
returns-in-Variant c = not_awaited c.args.of.now _ _ (sym c.get.ensures ∙ c.in-Variant.is) (seen_Variant _) refl

pub returns-in-Actor : goal.returns-in-Actor
returns-in-Actor c = not_awaited c.args.of.now _ _ (sym c.get.ensures ∙ c.in-Actor.is) (seen_Actor _) refl
