-- Values that are alike are two recodings of one value, whose functions are pairs of related ones.
use Rattle.std.proofs.Common.{◌≡◌, List, [], ◌∷◌, refl, sym, ap, ◌∙◌, subst}
use Rattle.mo_types.specs.declared.node.Node.{Node}
use Rattle.mo_types.specs.declared.node.TypeId.{TypeId}
use Rattle.mo_values.specs.declared.operation.Operation.{Operation}
use Rattle.mo_values.specs.Alike.{Alike, AlikeAll, AlikeEach, AlikeAnswers}
use Rattle.mo_values.specs.Costs.{operation_cost}
use Rattle.mo_values.specs.Operations.{operate}
use Rattle.mo_values.specs.Recoding.{recode, recode_all, recodes, recode_answer}
use Rattle.mo_values.specs.Shapes.{Shape, Shapes, Made, Function, NoShape, AShape}
use Rattle.mo_values.specs.Views.{Answer, Gives, Traps, Stuck}
use Rattle.mo_values.proofs.Natural.{natural}
use Rattle.mo_values.proofs.SameCosts.{same_cost}

pub record Pair {F G : Type 0} (R : F → G → Type 0) : Type 0 where
  pub one : F
  pub other : G
  pub related : R one other

module _ {F G : Type 0} (R : F → G → Type 0) where
  abbrev pub left : Pair R → F
  left p = p.one

  abbrev pub right : Pair R → G
  right p = p.other

  mutual
    pub joint : (v : Shape F) (w : Shape G) → Alike R v w → (u : Shape (Pair R)) × (recode left u ≡ v) × (recode right u ≡ w)
    joint (Made head vs) (Made other ws) a =
        let j = joint_all vs ws a.1 in (Made head j.0, ap (λ x. Made head x) j.1, ap (λ x. Made head x) j.2 ∙ ap (λ h. Made h ws) a.0)
    joint (Made head vs) (Function g) a = absurd a
    joint (Function f) (Made other ws) a = absurd a
    joint (Function f) (Function g) a = (Function (record { one = f; other = g; related = a }), refl, refl)

    joint_all : (vs : Shapes F) (ws : Shapes G) → AlikeAll R vs ws → (us : Shapes (Pair R)) × (recode_all left us ≡ vs) × (recode_all right us ≡ ws)
    joint_all NoShape NoShape a = (NoShape, refl, refl)
    joint_all NoShape (AShape w ws) a = absurd a
    joint_all (AShape v vs) NoShape a = absurd a
    joint_all (AShape v vs) (AShape w ws) a =
        let i = joint v w a.0 in
        let j = joint_all vs ws a.1 in
        (AShape i.0 j.0, ap (λ x. AShape x (recode_all left j.0)) i.1 ∙ ap (λ x. AShape v x) j.1, ap (λ x. AShape x (recode_all right j.0)) i.2 ∙ ap (λ x. AShape w x) j.2)

  joint_each : (vs : List (Shape F)) (ws : List (Shape G)) → AlikeEach R vs ws → (us : List (Shape (Pair R))) × (recodes left us ≡ vs) × (recodes right us ≡ ws)
  joint_each [] [] a = ([], refl, refl)
  joint_each [] (w ∷ ws) a = absurd a
  joint_each (v ∷ vs) [] a = absurd a
  joint_each (v ∷ vs) (w ∷ ws) a =
      let i = joint v w a.0 in
      let j = joint_each vs ws a.1 in
      (i.0 ∷ j.0, ap (λ x. x ∷ recodes left j.0) i.1 ∙ ap (λ x. v ∷ x) j.1, ap (λ x. x ∷ recodes right j.0) i.2 ∙ ap (λ x. w ∷ x) j.2)

  mutual
    pub apart : (u : Shape (Pair R)) → Alike R (recode left u) (recode right u)
    apart (Made head us) = (refl, all_apart us)
    apart (Function p) = p.related

    all_apart : (us : Shapes (Pair R)) → AlikeAll R (recode_all left us) (recode_all right us)
    all_apart NoShape = tt
    all_apart (AShape u us) = (apart u, all_apart us)

  pub each_apart : (us : List (Shape (Pair R))) → AlikeEach R (recodes left us) (recodes right us)
  each_apart [] = tt
  each_apart (u ∷ us) = (apart u, each_apart us)

  answer_apart : (a : Answer (Pair R)) → AlikeAnswers R (recode_answer left a) (recode_answer right a)
  answer_apart (Gives u) = apart u
  answer_apart (Traps text) = refl
  answer_apart Stuck = tt

  module _ (head : TypeId → Node TypeId) (o : Operation) where
    of_pairs : (us : List (Shape (Pair R))) → AlikeAnswers R (operate head o (recodes left us)) (operate head o (recodes right us))
    of_pairs us =
        subst (λ a. AlikeAnswers R a (operate head o (recodes right us))) (sym (natural left head o us))
        (subst (λ b. AlikeAnswers R (recode_answer left (operate head o us)) b) (sym (natural right head o us)) (answer_apart (operate head o us)))

    pub alike_answers : (vs : List (Shape F)) (ws : List (Shape G)) → AlikeEach R vs ws → AlikeAnswers R (operate head o vs) (operate head o ws)
    alike_answers vs ws a =
        let j = joint_each vs ws a in
        subst (λ xs. AlikeAnswers R (operate head o xs) (operate head o ws)) j.1
        (subst (λ ys. AlikeAnswers R (operate head o (recodes left j.0)) (operate head o ys)) j.2 (of_pairs j.0))

    cost_of : {X : Type 0} (code : Pair R → X) (us : List (Shape (Pair R))) → operation_cost o (recodes code us) (operate head o (recodes code us)) ≡ operation_cost o us (operate head o us)
    cost_of code us = ap (λ a. operation_cost o (recodes code us) a) (natural code head o us) ∙ same_cost code o us (operate head o us)

    pub alike_costs : (vs : List (Shape F)) (ws : List (Shape G)) → AlikeEach R vs ws → operation_cost o vs (operate head o vs) ≡ operation_cost o ws (operate head o ws)
    alike_costs vs ws a =
        let j = joint_each vs ws a in
        ap (λ xs. operation_cost o xs (operate head o xs)) (sym j.1)
        ∙ (cost_of left j.0 ∙ (sym (cost_of right j.0) ∙ ap (λ ys. operation_cost o ys (operate head o ys)) j.2))
