-- A list by its stages.
use Rattle.std.proofs.Common.{◌≡◌, ◌∙◌, ℕ, true, false, Bool, List, [], ◌++◌, append_assoc, length, map, Ok, Err, None, option_map, refl, sym, ap, subst}
use Rattle.std.specs.Prelude.{Result}
use Rattle.std.specs.Result.{IsErr, IsErrAnd}
use Rattle.mo_types.specs.Sub.{Each}
use Rattle.type_terms.specs.declared.form.Form.{Form}
use Rattle.typing_rules.specs.AbstractSyntax as p
use Rattle.typing_rules.specs.Contexts.{Context, Scope, with_values}
use Rattle.typing_rules.specs.DeclaredTypes.{with_list}
use Rattle.typing_rules.specs.Expressions.{JudgeBodies, JudgeOrder}
use Rattle.typing_rules.specs.Judgements.{Gives, Judgement, Part}
use Rattle.typing_rules.specs.Lists as rules
use Rattle.typing_rules.specs.Signatures.{DefinitionsOf, Signatures}
use Rattle.typing_rules.specs.Terms.{Term}
use Rattle.typing_rules.specs.TypedTrees.{Note}
use Rattle.typing_rules.specs.TypeScopes.{TypeScope}
use Rattle.type_definitions.specs.Definitions.{rules_in}
use Rattle.type_definitions.specs.Meanings.{term}
use Rattle.type_definitions.specs.Tables.{Later}
use Rattle.type_definitions.proofs.Meanings.{each_map}
use Rattle.met_types.specs.States.{Goes, IsReached, State}
use Rattle.type_scopes.specs.Scopes.{seen}
use Rattle.type_scopes.specs.Scopes.{Names as TypeNames}
use Rattle.type_judgements.specs.declared.refusal.Refusal.{Refusal}
use Rattle.type_judgements.specs.declared.refusal.Refusal.TheVariants as refusal
use Rattle.abstract_tree.specs.declared.declarations.Declaration as tree
use Rattle.value_scopes.specs.declared.note.Note as value_note
use Rattle.value_scopes.specs.declared.scopes.Scopes.{Scopes}
use Rattle.value_scopes.specs.Places.{context_in}
use Rattle.value_scopes.specs.Values.{scope_in}
use Rattle.typed_patterns.specs.Binding.{Names}
use Rattle.proper_types.proofs.Turns.{part_assoc}
use Rattle.signatures.specs.Naming.{no_more as none_besides}
use Rattle.judging.specs.declared.checker.Checker.{Checker}
use Rattle.judging.specs.declared.site.Site.{Site}
use Rattle.judging.specs.Parts.{Ready, Sound}
use Rattle.judging.specs.Views.{View, context, definitions, no_more, nothing, view, wanted_in}
use Rattle.judging.specs.Answers.{Answers}
use Rattle.judging.proofs.Chains.{given, goes_on, seen_as, stops}
use Rattle.judging.proofs.Steps.{reached_on}
use Rattle.scope_judging.specs.Binding.{Binds, bound, names_reached, under}
use Rattle.scope_judging.proofs.Under.{anywhere, context_under, given_elsewhere, refused_elsewhere, sound_without}
use Rattle.signature_judging.specs.Rules.{definitions_of, signatures_of}
use Rattle.list_judging.specs.declared.part.MadeList.{MadeList}
use Rattle.list_judging.specs.Lists.{declarations_in, judge_list, list_in, list_reached, seen_list}
use Rattle.order_rules.specs.declared.entries.MadeRun.{MadeRun}
use Rattle.order_rules.specs.Entries.{Enters, judge_order, made_in, run_in, run_reached, with_reached}
use Rattle.list_rules.specs.Lists.{any_list, judge_bodies, list_bound, listed_in, ordered_in}

still_reached : (s t : State) (more : Names) → Goes s t → Each (λ q. IsReached s q.1.kind) more → Each (λ q. IsReached t q.1.kind) more
still_reached s t more g h = each_map (λ q. IsReached s q.1.kind) (λ q. IsReached t q.1.kind) (λ q. reached_on s t q.1.kind g) more h

-- ---- what is evaluated in order, and then the bodies

module _ (x : Site) (value : Bool) (xs : List (tree.Declaration ℕ)) where
  abbrev ordered : View → Judgement (Term × p.Declarations Note)
  ordered = ordered_in x value xs

  abbrev bodies : View → rules.Run → Judgement (Term × p.Declarations Note)
  bodies v run = Part (JudgeBodies (definitions v) run.known (seen_list xs) run.made) (λ made. Gives (run.type, made))

  pub no_order : (c d f : Scopes) (k l : Checker) (e : Refusal) (r : Result MadeList Refusal) → IsErr r × IsErrAnd r (λ z. z ≡ e) → Enters (run_in c x.place) run_reached (judge_order x value xs) c k d l (Err e)
      → Enters list_bound list_reached ordered c k f l r
  no_order c d f k l e (Ok m) g o = let z : false ≡ true = g.0 in cc
  no_order c d f k l e (Err q) g o = record {
    more = [];
    answer = stops (list_bound []) (with_reached list_reached []) (run_in c x.place o.more) (with_reached run_reached o.more) (judge_order x value xs) bodies c c k l e (Err q) g o.answer;
    pushed = tt;
  }

  module _ (c d : Scopes) (k l : Checker) (run : MadeRun) (o : Enters (run_in c x.place) run_reached (judge_order x value xs) c k d l (Ok run)) where
    abbrev there : View → Judgement (p.Declarations Note)
    there = judge_bodies x.place xs run.made

    -- the bodies where the names are bound
    abbrev here : View → Judgement (p.Declarations Note)
    here v = JudgeBodies (definitions v) (with_values (scope_in v.later o.more) (context_in v.later c x.place)) (seen_list xs) (map (made_in v.later) run.made)

    same : (later : List Form) → Later l.types.forms later → here (view later l.types.listed c) ≡ there (view later l.types.listed d)
    same later w =
        ap (λ (e : Context). JudgeBodies (rules_in later l.types.listed) e (seen_list xs) (map (made_in later) run.made))
        (context_under o.more later c x.place ∙ ap (λ (z : Scopes). context_in later z x.place) (sym o.pushed))

    abbrev closes : View → p.Declarations Note → Judgement (Term × p.Declarations Note)
    closes v ds = Gives (term v.later run.kind, ds)

    pub no_bodies : (e f : Scopes) (m : Checker) (q : Refusal) (r : Result MadeList Refusal) → IsErr r × IsErrAnd r (λ z. z ≡ q) → Answers declarations_in any_list there d l e m (Err q) → Enters list_bound list_reached ordered c k f m r
    no_bodies e f m q (Ok z) g h = let z : false ≡ true = g.0 in cc
    no_bodies e f m q (Err z) g h = record {
      more = [];
      answer = goes_on (list_bound []) (with_reached list_reached []) (run_in c x.place o.more) (with_reached run_reached o.more) (judge_order x value xs) bodies c c c k l m run (Err z) o.answer
          (stops (list_bound []) (with_reached list_reached []) declarations_in any_list here closes c c l m q (Err z) g
          (refused_elsewhere declarations_in any_list here there c d l same e c m q h));
      pushed = tt;
    }

    abbrev whole : List (tree.Declaration value_note.Note) → MadeList
    whole ds = record { kind = run.kind; declarations = ds }

    pub bodies_given : (e : Scopes) (m : Checker) (ds : List (tree.Declaration value_note.Note)) → Answers declarations_in any_list there d l e m (Ok ds) → Enters list_bound list_reached ordered c k e m (Ok (whole ds))
    bodies_given e m ds h =
        let sound : Sound m c = sound_without o.more c m (subst (λ (z : Scopes). Sound m z) (h.outcome.same ∙ o.pushed) h.outcome.sound) in
        record {
          more = o.more;
          answer = goes_on (list_bound o.more) (with_reached list_reached o.more) (run_in c x.place o.more) (with_reached run_reached o.more) (judge_order x value xs) bodies c c c k l m run (Ok (whole ds)) o.answer
              (goes_on (list_bound o.more) (with_reached list_reached o.more) declarations_in any_list here closes c c c l m m ds (Ok (whole ds))
              (given_elsewhere declarations_in any_list here there c d l same e c m ds sound refl h)
              (given (list_bound o.more) (with_reached list_reached o.more) (λ v. closes v (declarations_in ds v.later)) c m (whole ds) sound
              (still_reached l.types m.types o.more h.outcome.goes o.answer.outcome.holds.0, reached_on l.types m.types run.kind h.outcome.goes o.answer.outcome.holds.1) (λ later w. refl)));
          pushed = h.outcome.same ∙ o.pushed;
        }

-- ---- the list alone

plain_answer : {j : View → Judgement (Term × p.Declarations Note)} {c : Scopes} {k l : Checker} (made : MadeList) (more : Names) → Answers (list_bound more) (with_reached list_reached more) j c k c l (Ok made) → Answers list_in list_reached j c k c l (Ok made)
plain_answer made more h = record { outcome = record { sound = h.outcome.sound; same = h.outcome.same; goes = h.outcome.goes; holds = h.outcome.holds.1; gave = h.outcome.gave } }

bound_answer : {j : View → Judgement (Term × p.Declarations Note)} {c : Scopes} {k l : Checker} (q : Refusal) (more : Names) → Answers (list_bound more) (with_reached list_reached more) j c k c l (Err q) → Answers list_in list_reached j c k c l (Err q)
bound_answer (refusal.False place y) more h = record { outcome = record { left = h.outcome.left; names = h.outcome.names } }
bound_answer refusal.Memory more h = record { outcome = tt }

-- ---- where the types that it defines are in scope

module _ (x : Site) (value : Bool) (xs : List (tree.Declaration ℕ)) where
  abbrev listed : View → Judgement (Term × p.Declarations Note)
  listed = listed_in x value xs

  -- with these names of signatures
  abbrev named : Scope → View → Judgement (Term × p.Declarations Note)
  named names v =
      Part (JudgeOrder (definitions v) (with_values names (context v x.place)) x.at value (seen_list xs) None (wanted_in v x.wanted)) (λ run.
      Part (JudgeBodies (definitions v) run.known (seen_list xs) run.made) (λ made. Gives (run.type, made)))

  abbrev signed : View → Unit {0} → Judgement (Term × p.Declarations Note)
  signed v u = Part (Signatures (definitions v) (seen v.scopes.types) (seen_list xs)) (λ names. named names v)

  abbrev bound_names : View → Scope × Unit {0} → Judgement (Term × p.Declarations Note)
  bound_names v r = named r.0 v

  as_bound : (v : View) → signed v tt ≡ Part (signatures_of (seen_list xs) v) (bound_names v)
  as_bound v = sym (part_assoc (Signatures (definitions v) (seen v.scopes.types) (seen_list xs)) (λ names. Gives (names, tt)) (bound_names v))

  pub no_definitions : (c d f : Scopes) (k l : Checker) (e : Refusal) (r : Result MadeList Refusal) → IsErr r × IsErrAnd r (λ z. z ≡ e) → Answers nothing no_more (definitions_of (seen_list xs)) c k d l (Err e)
      → Answers list_in list_reached listed c k f l r
  no_definitions c d f k l e r g h = anywhere list_in list_reached listed c d f k l r g.0 (stops list_in list_reached nothing no_more (definitions_of (seen_list xs)) signed c d k l e r g h)

  module _ (a c : Scopes) (k l : Checker) (u : Unit {0}) (h : Answers nothing no_more (definitions_of (seen_list xs)) a k c l (Ok u)) where
    from_bound : (f : Scopes) (m : Checker) (r : Result MadeList Refusal) → Answers list_in list_reached (λ v. Part (signatures_of (seen_list xs) v) (bound_names v)) c l f m r → Answers list_in list_reached listed a k f m r
    from_bound f m r g =
        goes_on list_in list_reached nothing no_more (definitions_of (seen_list xs)) signed a c f k l m u r h
        (seen_as list_in list_reached (λ v. signed v tt) (λ v. Part (signatures_of (seen_list xs) v) (bound_names v)) c f l m r (λ later w. as_bound (view later l.types.listed c)) g)

    pub no_signatures : (d f : Scopes) (m : Checker) (e : Refusal) (r : Result MadeList Refusal) → IsErr r × IsErrAnd r (λ z. z ≡ e) → Binds none_besides (signatures_of (seen_list xs)) c l d m (Err e)
        → Answers list_in list_reached listed a k f m r
    no_signatures d f m e r g b =
        anywhere list_in list_reached listed a c f k m r g.0
        (from_bound c m r (stops list_in list_reached (bound b.more none_besides) (names_reached b.more) (signatures_of (seen_list xs)) bound_names c c l m e r g b.answer))

    module _ (d : Scopes) (m : Checker) (w : Unit {0}) (b : Binds none_besides (signatures_of (seen_list xs)) c l d m (Ok w)) where
      same_ordered : (later : List Form) → Later m.types.forms later → named (scope_in later b.more) (view later m.types.listed c) ≡ ordered_in x value xs (view later m.types.listed d)
      same_ordered later z =
          ap (λ (e : Context).
          Part (JudgeOrder (rules_in later m.types.listed) e x.at value (seen_list xs) None (option_map (term later) x.wanted)) (λ run.
          Part (JudgeBodies (rules_in later m.types.listed) run.known (seen_list xs) run.made) (λ made. Gives (run.type, made))))
          (context_under b.more later c x.place ∙ ap (λ (y : Scopes). context_in later y x.place) (sym b.pushed))

      from_ordered : (f : Scopes) (n : Checker) (r : Result MadeList Refusal) → Answers list_in list_reached (λ v. named (scope_in v.later b.more) v) c m f n r → Answers list_in list_reached listed a k f n r
      from_ordered f n r g =
          from_bound f n r (goes_on list_in list_reached (bound b.more none_besides) (names_reached b.more) (signatures_of (seen_list xs)) bound_names c c f l m n w r b.answer g)

      pub no_run : (e f : Scopes) (n : Checker) (q : Refusal) (r : Result MadeList Refusal) → IsErr r × IsErrAnd r (λ z. z ≡ q) → Enters list_bound list_reached (ordered_in x value xs) d m e n (Err q)
          → Answers list_in list_reached listed a k f n r
      no_run e f n q (Ok z) g o = let z : false ≡ true = g.0 in cc
      no_run e f n q (Err z) g o =
          from_ordered f n (Err z) (subst (λ (y : Refusal). Answers list_in list_reached (λ v. named (scope_in v.later b.more) v) c m f n (Err y)) (sym g.1)
          (refused_elsewhere list_in list_reached (λ v. named (scope_in v.later b.more) v) (ordered_in x value xs) c d m same_ordered d f n q (bound_answer q o.more o.answer)))

      -- all names are taken away
      pub run_given : (e f : Scopes) (n : Checker) (made : MadeList) (count : ℕ) → ((more : Names) (z : Scopes) → e ≡ under more z → count ≡ length z.values → f ≡ z) → count ≡ length c.values
          → Enters list_bound list_reached (ordered_in x value xs) d m e n (Ok made) → Answers list_in list_reached listed a k f n (Ok made)
      run_given e f n made count back q o =
          let all : e ≡ under (o.more ++ b.more) c = o.pushed ∙ (ap (λ (z : Scopes). under o.more z) b.pushed ∙ ap (λ (vs : Names). record c { values = vs }) (sym (append_assoc o.more b.more c.values))) in
          let there : f ≡ c = back (o.more ++ b.more) c all q in
          let sound : Sound n c = sound_without b.more c n (subst (λ (z : Scopes). Sound n z) b.pushed o.answer.outcome.sound) in
          from_ordered f n (Ok made)
          (given_elsewhere list_in list_reached (λ v. named (scope_in v.later b.more) v) (ordered_in x value xs) c d m same_ordered d f n made (subst (λ (z : Scopes). Sound n z) (sym there) sound) there
          (plain_answer made o.more o.answer))

-- ---- the types that it defines

module _ (x : Site) (value : Bool) (xs : List (tree.Declaration ℕ)) (c : Scopes) (k l : Checker) (t : TypeNames) (e : seen t ≡ with_list (seen c.types) (seen_list xs)) where
  abbrev typed : Scopes
  typed = record c { types = t }

  same_list : (later : List Form) → Later k.types.forms later → judge_list x value xs (view later k.types.listed c) ≡ listed_in x value xs (view later k.types.listed typed)
  same_list later w =
      ap (λ (s : TypeScope).
      Part (DefinitionsOf (rules_in later k.types.listed) s (seen_list xs)) (λ u. Part (Signatures (rules_in later k.types.listed) s (seen_list xs)) (λ names.
      Part (JudgeOrder (rules_in later k.types.listed) (with_values names (record (context_in later c x.place) { types = s })) x.at value (seen_list xs) None (option_map (term later) x.wanted)) (λ run.
      Part (JudgeBodies (rules_in later k.types.listed) run.known (seen_list xs) run.made) (λ made. Gives (run.type, made)))))) (sym e)

  pub no_list : (d f : Scopes) (q : Refusal) (r : Result MadeList Refusal) → IsErr r × IsErrAnd r (λ z. z ≡ q) → Answers list_in list_reached (listed_in x value xs) typed k d l (Err q) → Answers list_in list_reached (judge_list x value xs) c k f l r
  no_list d f q (Ok z) g h = let z : false ≡ true = g.0 in cc
  no_list d f q (Err z) g h =
      subst (λ (y : Refusal). Answers list_in list_reached (judge_list x value xs) c k f l (Err y)) (sym g.1)
      (refused_elsewhere list_in list_reached (judge_list x value xs) (listed_in x value xs) c typed k same_list d f l q h)

  pub list_given : (d f : Scopes) (made : MadeList) → f ≡ c → Sound l c → Answers list_in list_reached (listed_in x value xs) typed k d l (Ok made) → Answers list_in list_reached (judge_list x value xs) c k f l (Ok made)
  list_given d f made there sound h =
      given_elsewhere list_in list_reached (judge_list x value xs) (listed_in x value xs) c typed k same_list d f l made (subst (λ (z : Scopes). Sound l z) (sym there) sound) there h

pub typed_ready : (x : Site) (c : Scopes) (k : Checker) (t : TypeNames) → Ready k c x → Ready k (record c { types = t }) x
typed_ready x c k t r = record { sound = record { known = r.sound.known; values = r.sound.values; labels = r.sound.labels }; returns = r.returns; wanting = r.wanting }

pub untyped_sound : (c : Scopes) (k : Checker) (t : TypeNames) → Sound k (record c { types = t }) → Sound k c
untyped_sound c k t s = record { known = s.known; values = s.values; labels = s.labels }

-- the names of types are taken away again
pub taken_off : (c d : Scopes) (t u : TypeNames) → d ≡ record c { types = t } → u ≡ c.types → record d { types = u } ≡ c
taken_off c d t u e f = ap (λ (z : Scopes). record z { types = u }) e ∙ ap (λ (v : TypeNames). record c { types = v }) f
