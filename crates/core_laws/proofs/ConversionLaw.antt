-- The law of conversion.
use Rattle.std.proofs.Common.{◌≡◌, ℕ, zero, suc, refl, sym, subst, List, [], ◌∷◌, true, arith as arithmetic}
use Rattle.mo_types.specs.declared.node.TypeId.{TypeId}
use Rattle.mo_types.specs.Calls.{CallTable}
use Rattle.mo_values.specs.Shapes.{Bytes}
use Rattle.core_ir.specs.Worlds.{Given, World, Context}
use Rattle.core_ir.specs.Executions.{Entry, Begins, Resumes, Saves, Starts, End, Replies, Rejects, Waits, Traps, Breaks, Stand, Still, Over, Machine, execution}
use Rattle.core_ir.specs.Code.{Code, Stop, Let, If, Match, Loop, Label, Branch, Leave, Pass, Make, Call, Tabulate, Send, Wait, Raise, Return, CodeProgram}
use Rattle.core_ir.specs.CodeMachine.{Waiting, State, code_machine}
use Rattle.core_laws.specs.Uses.{holds, uses_segments, needs_of}
use Rattle.core_laws.specs.Conversion.{convert_program}
use Rattle.core_laws.specs.Converted.{world_as, Ordered}
use Rattle.core_laws.specs.Carried.{with_table, IsOver, Anew, EndsAlike, StandsAlike, ShowsAlike, Carries}
use Rattle.core_laws.specs.Laws.{ConversionCarries}
use Rattle.core_laws.proofs.Seen.{SeesSegments}
use Rattle.core_laws.proofs.ConvertedStates.{waiting_as, SameEnd}
use Rattle.core_laws.proofs.ConvertedRuns.{StandsAs, GoodBodies, EntersAs, execution_as}
use Rattle.core_laws.proofs.FoundUses.{Known, KnownSegments, segments_in}
use Rattle.core_laws.proofs.UsesSuffice.{uses_suffice}

-- ---- bodies that are entered

known_all : (needs : List (List ℕ)) (c : Code) → Known needs needs c
known_all needs Stop = tt
known_all needs (Let t p xs c) = known_all needs c
known_all needs (If p xs y z c) = (known_all needs y, known_all needs z, known_all needs c)
known_all needs (Match t k x y z c) = (known_all needs y, known_all needs z, known_all needs c)
known_all needs (Loop b c) = (known_all needs b, known_all needs c)
known_all needs (Label b c) = (known_all needs b, known_all needs c)
known_all needs (Branch l) = tt
known_all needs (Leave j) = tt
known_all needs (Pass t x j) = tt
known_all needs (Make t seen k c) = (refl, known_all needs c)
known_all needs (Call t f xs c) = known_all needs c
known_all needs (Tabulate t m f c) = known_all needs c
known_all needs (Send t s f xs k c) = known_all needs c
known_all needs (Wait t x k j) = tt
known_all needs (Raise x k) = tt
known_all needs (Return x) = tt

known_segments : (needs : List (List ℕ)) (cs : List Code) → KnownSegments needs needs cs
known_segments needs [] = tt
known_segments needs (c ∷ cs) = (known_all needs c, known_segments needs cs)

sees_nothing : (needs : List (List ℕ)) (cs : List Code) → uses_segments needs cs [] ≡ [] → SeesSegments needs [] cs
sees_nothing needs cs e = segments_in needs needs [] cs [] (known_segments needs cs) (λ x h. subst (λ xs. holds x xs ≡ true) e h)

module _ (p : CodeProgram) (ordered : Ordered p) where
  abbrev needs : List (List ℕ)
  needs = needs_of [] p.groups

  abbrev old : Machine State Waiting
  old = code_machine p

  abbrev new : Machine State Waiting
  new = code_machine (convert_program p)

  bodies : (c : Context) → GoodBodies needs p c
  bodies c =
      record {
        methods = λ m x e. sees_nothing needs x.body.segments (ordered.methods m x e);
        save = sees_nothing needs p.save.segments ordered.save;
        start = sees_nothing needs p.start.segments ordered.start;
      }

  module _ (m : ℕ) (c : Context) where
    abbrev Next : Waiting → Waiting → Type 0
    Next x y = (table : CallTable (List TypeId) Given) (given : Given) → Carries 1 (world_as needs) old new m (with_table c table) (Resumes x given) (Resumes y given)

    abbrev Alike : Stand State Waiting → Stand State Waiting → Type 0
    Alike = StandsAlike 1 (world_as needs) Next

    module _ (more : (table : CallTable (List TypeId) Given) (e e' : Entry Waiting) → EntersAs needs p (with_table c table) e e' → Carries 1 (world_as needs) old new m (with_table c table) e e') where
      over : (w d : ℕ) (o : List Bytes) (wd : World) (e e' : End Waiting) → SameEnd needs e e' → Alike (Over w d o wd e) (Over w d o (world_as needs wd) e')
      over w d o wd (Replies v) e' h = record { prints_are = refl; world_is = refl; weight = omega arithmetic; depth = omega arithmetic; ends = h }
      over w d o wd (Rejects v) e' h = record { prints_are = refl; world_is = refl; weight = omega arithmetic; depth = omega arithmetic; ends = h }
      over w d o wd (Waits on x) e' h =
          record {
            prints_are = refl;
            world_is = refl;
            weight = omega arithmetic;
            depth = omega arithmetic;
            ends =
                subst (λ e. EndsAlike Next (Waits on x) e) (sym (h.1))
                (refl, λ table given. more table (Resumes x given) (Resumes (waiting_as needs (h.0) x) given) (h.0, refl, h.2));
          }
      over w d o wd (Traps text) e' h = record { prints_are = refl; world_is = refl; weight = omega arithmetic; depth = omega arithmetic; ends = h }
      over w d o wd Breaks e' h = tt

      stands : (a b : Stand State Waiting) → StandsAs needs p c a b → Alike a b
      stands (Still w d o wd s) b h =
          subst (λ b. Alike (Still w d o wd s) b) (sym (h.2)) (record { prints_are = refl; world_is = refl; weight = omega arithmetic; depth = omega arithmetic })
      stands (Over w d o wd e) b h = subst (λ b. Alike (Over w d o wd e) b) (sym (h.1)) (over w d o wd e (h.0) (h.2))

  over_back : (c : Context) (a b : Stand State Waiting) → StandsAs needs p c a b → IsOver b → IsOver a
  over_back c (Still w d o wd s) b h i = subst (λ b. IsOver b) (h.2) i
  over_back c (Over w d o wd e) b h i = tt

  abbrev Shows : Stand State Waiting → Stand State Waiting → Type 0
  Shows = ShowsAlike 1 (world_as needs)

  shows_over : (w d w' d' : ℕ) (o o' : List Bytes) (wd wd' : World) (e e' : End Waiting) → Shows (Over w d o wd e) (Over w' d' o' wd' e')
  shows_over w d w' d' o o' wd wd' (Replies v) e' = tt
  shows_over w d w' d' o o' wd wd' (Rejects v) e' = tt
  shows_over w d w' d' o o' wd wd' (Waits on x) e' = tt
  shows_over w d w' d' o o' wd wd' (Traps text) e' = tt
  shows_over w d w' d' o o' wd wd' Breaks e' = tt

  shows : (c : Context) (a b : Stand State Waiting) → StandsAs needs p c a b → Shows a b
  shows c (Still w d o wd s) b h = subst (λ b. Shows (Still w d o wd s) b) (sym (h.2)) (record { prints_are = refl; weight = omega arithmetic; depth = omega arithmetic })
  shows c (Over w d o wd e) b h = subst (λ b. Shows (Over w d o wd e) b) (sym (h.1)) (shows_over w d w d o o wd (world_as needs wd) e (h.0))

  carries : (m : ℕ) (c : Context) (e e' : Entry Waiting) → EntersAs needs p c e e' → Carries 1 (world_as needs) old new m c e e'
  carries zero c e e' h = tt
  carries (suc m) c e e' h = λ world.
      let same : (n : ℕ) → StandsAs needs p c (execution old c n world e) (execution new c n (world_as needs world) e') =
      λ n. execution_as needs p c (uses_suffice p c ordered.groups) (bodies c) n world e e' h in
      let alike : (n : ℕ) → Alike m c (execution old c n world e) (execution new c n (world_as needs world) e') =
      λ n. stands m c (λ table e e' h. carries m (with_table c table) e e' h) (execution old c n world e) (execution new c n (world_as needs world) e') (same n) in
      record {
        forth = λ n. (n, alike n);
        back = λ k i. (k, over_back c (execution old c k world e) (execution new c k (world_as needs world) e') (same k) i, alike k);
        between = λ k. (k, shows c (execution old c k world e) (execution new c k (world_as needs world) e') (same k));
      }

  anew : (c : Context) (e e' : Entry Waiting) → Anew e e' → EntersAs needs p c e e'
  anew c (Begins method caller vs) e' h = h
  anew c (Resumes x given) e' h = absurd h
  anew c Saves e' h = h
  anew c (Starts kept upgraded) e' h = h

pub conversion_carries : ConversionCarries
conversion_carries p ordered m c e e' h = carries p ordered m c e e' (anew p ordered c e e' h)
