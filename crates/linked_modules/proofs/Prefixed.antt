-- The texts of a module begin with those of traps.
use Rattle.std.proofs.Common.{◌≡◌, List, [], ◌∷◌, ◌++◌, Bool, true, false, cond, refl, sym, ap, ◌∙◌, append_assoc}
use Rattle.std.proofs.lemmas.List.{append-nil}
use Rattle.mo_types.specs.declared.datum.Datum.{Datum}
use Rattle.mo_types.specs.declared.datum.Datum.TheVariants as part
use Rattle.mo_values.specs.declared.operation.Operation.{Operation}
use Rattle.mo_values.specs.declared.operation.Operation.TheVariants as op
use Rattle.mo_values.specs.Shapes.{Bytes}
use Rattle.core_ir.specs.declared.primitive.Primitive.{Primitive}
use Rattle.core_ir.specs.declared.primitive.Primitive.TheVariants as primitive
use Rattle.core_ir.specs.declared.constant.Constant.{Constant}
use Rattle.core_ir.specs.declared.constant.Constant.TheVariants as constant
use Rattle.core_ir.specs.declared.code.Operand.{Operand}
use Rattle.core_ir.specs.declared.code.Operand.TheVariants.{Slot, Captured, Member, Global}
use Rattle.core_ir.specs.declared.code.Operand.TheVariants as operand
use Rattle.core_ir.specs.Programs.{Group, Method}
use Rattle.core_ir.specs.Code.{Code, Let, If, Match, Loop, Label, Make, Call, Return, Body, CodeProgram}
use Rattle.low_emit.specs.Texts.{common_texts, is_among, with_text, leaf_texts, constant_texts, operand_texts, operands_texts, primitive_texts, code_texts, segments_texts, bodies_texts, groups_texts, methods_texts, texts_of}

-- The list has grown behind.
pub record Grown (ts us : List Bytes) : Type 0 where
  pub more : List Bytes
  pub is : us ≡ ts ++ more

same : (ts : List Bytes) → Grown ts ts
same ts = record { more = []; is = sym (append-nil ts) }

then : (ts us vs : List Bytes) → Grown ts us → Grown us vs → Grown ts vs
then ts us vs a b = record { more = a.more ++ b.more; is = b.is ∙ ap (λ l. l ++ b.more) a.is ∙ append_assoc ts a.more b.more }

text : (t : Bytes) (ts : List Bytes) → Grown ts (with_text t ts)
text t ts = by (is_among t ts)
  where
    by : (b : Bool) → Grown ts (cond b ts (ts ++ t ∷ []))
    by true = same ts
    by false = record { more = t ∷ []; is = refl }

leaf : (p : Datum) (ts : List Bytes) → Grown ts (leaf_texts p ts)
leaf (part.Text t) ts = text t ts
leaf (part.Blob t) ts = text t ts
leaf (part.Principal t) ts = text t ts
leaf (part.Actor t) ts = text t ts
leaf p ts = same ts

literal : (c : Constant) (ts : List Bytes) → Grown ts (constant_texts c ts)
literal constant.Unit ts = same ts
literal (constant.Leaf p) ts = leaf p ts

one : (x : Operand) (ts : List Bytes) → Grown ts (operand_texts x ts)
one (Slot x) ts = same ts
one (Captured x) ts = same ts
one (Member k) ts = same ts
one (Global x) ts = same ts
one (operand.Constant c) ts = literal c ts

all : (xs : List Operand) (ts : List Bytes) → Grown ts (operands_texts xs ts)
all [] ts = same ts
all (x ∷ xs) ts = then ts (operand_texts x ts) (operands_texts xs (operand_texts x ts)) (one x ts) (all xs (operand_texts x ts))

fails : (o : Operation) (ts : List Bytes) → Grown ts (primitive_texts (primitive.Operate o) ts)
fails (op.Fail t) ts = text t ts
fails o ts = same ts

first : (p : Primitive) (ts : List Bytes) → Grown ts (primitive_texts p ts)
first (primitive.Operate o) ts = fails o ts
first p ts = same ts

on_operands : (p : Primitive) (xs : List Operand) (ts : List Bytes) → Grown ts (operands_texts xs (primitive_texts p ts))
on_operands p xs ts = then ts (primitive_texts p ts) (operands_texts xs (primitive_texts p ts)) (first p ts) (all xs (primitive_texts p ts))

code : (c : Code) (ts : List Bytes) → Grown ts (code_texts c ts)
code (Let t p xs c) ts =
    let us : List Bytes = operands_texts xs (primitive_texts p ts) in
    then ts us (code_texts c us) (on_operands p xs ts) (code c us)
code (If p xs y n c) ts =
    let us : List Bytes = operands_texts xs (primitive_texts p ts) in
    then ts us (code_texts c (code_texts n (code_texts y us))) (on_operands p xs ts)
    (then us (code_texts y us) (code_texts c (code_texts n (code_texts y us))) (code y us)
    (then (code_texts y us) (code_texts n (code_texts y us)) (code_texts c (code_texts n (code_texts y us))) (code n (code_texts y us)) (code c (code_texts n (code_texts y us)))))
code (Match t k x y n c) ts =
    let us : List Bytes = operand_texts x ts in
    then ts us (code_texts c (code_texts n (code_texts y us))) (one x ts)
    (then us (code_texts y us) (code_texts c (code_texts n (code_texts y us))) (code y us)
    (then (code_texts y us) (code_texts n (code_texts y us)) (code_texts c (code_texts n (code_texts y us))) (code n (code_texts y us)) (code c (code_texts n (code_texts y us)))))
code (Loop b c) ts = then ts (code_texts b ts) (code_texts c (code_texts b ts)) (code b ts) (code c (code_texts b ts))
code (Label b c) ts = then ts (code_texts b ts) (code_texts c (code_texts b ts)) (code b ts) (code c (code_texts b ts))
code (Make t xs k c) ts = then ts (operands_texts xs ts) (code_texts c (operands_texts xs ts)) (all xs ts) (code c (operands_texts xs ts))
code (Call t f xs c) ts =
    let us : List Bytes = operands_texts xs (operand_texts f ts) in
    then ts us (code_texts c us) (then ts (operand_texts f ts) us (one f ts) (all xs (operand_texts f ts))) (code c us)
code (Return x) ts = one x ts
code c ts = same ts

segments : (cs : List Code) (ts : List Bytes) → Grown ts (segments_texts cs ts)
segments [] ts = same ts
segments (c ∷ cs) ts = then ts (code_texts c ts) (segments_texts cs (code_texts c ts)) (code c ts) (segments cs (code_texts c ts))

bodies : (bs : List Body) (ts : List Bytes) → Grown ts (bodies_texts bs ts)
bodies [] ts = same ts
bodies (b ∷ bs) ts = then ts (segments_texts b.segments ts) (bodies_texts bs (segments_texts b.segments ts)) (segments b.segments ts) (bodies bs (segments_texts b.segments ts))

groups : (gs : List (Group Body)) (ts : List Bytes) → Grown ts (groups_texts gs ts)
groups [] ts = same ts
groups (g ∷ gs) ts = then ts (bodies_texts g.bodies ts) (groups_texts gs (bodies_texts g.bodies ts)) (bodies g.bodies ts) (groups gs (bodies_texts g.bodies ts))

methods : (ms : List (Method Body)) (ts : List Bytes) → Grown ts (methods_texts ms ts)
methods [] ts = same ts
methods (m ∷ ms) ts = then ts (segments_texts m.body.segments ts) (methods_texts ms (segments_texts m.body.segments ts)) (segments m.body.segments ts) (methods ms (segments_texts m.body.segments ts))

pub texts_begin : (p : CodeProgram) → Grown common_texts (texts_of p)
texts_begin p =
    let us : List Bytes = groups_texts p.groups common_texts in
    let vs : List Bytes = methods_texts p.methods us in
    then common_texts us (texts_of p) (groups p.groups common_texts) (then us vs (texts_of p) (methods p.methods us) (segments p.start.segments vs))
