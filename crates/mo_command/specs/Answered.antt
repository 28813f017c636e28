-- What `build` and `run` come to for actors of constant queries, told of the methods of their sources alone.
use Rattle.std.specs.Prelude.{◌≡◌, ◌≤◌, ℕ, List, ◌∷◌, length, Some, slice_get}
use Rattle.std.specs.List.{AllByRecursion, AllZip}
use Rattle.outer.specs.Names.{NameMap}
use Rattle.play_script.specs.declared.event.Event.{Event}
use Rattle.play_script.specs.declared.event.Event.TheVariants as event
use Rattle.play_script.specs.declared.item.Item.{Item}
use Rattle.play_script.specs.Scripts.{ScriptOf}
use Rattle.play_script.specs.Items.{ItemsText}
use Rattle.query_source.specs.declared.query.Method.{Method}
use Rattle.query_source.specs.Source.{IsSource}
use Rattle.query_module.specs.ActorRun.{IsGiven, IsRunOf}
use Rattle.query_module.specs.Laws.{Answers}
use Rattle.wasm_tree.specs.declared.module_parts.Module.{Module}
use Rattle.wasm_tree.specs.Binary.{Written}
use Rattle.wasm_tree.specs.Valid.{ValidModule}
use Rattle.mo_words.specs.declared.options.Options.{Options}
use Rattle.mo_command.specs.Built.{IsModuleOf}
use Rattle.mo_command.specs.Held.{HasBytes}
use Rattle.mo_command.specs.Replays.{IsRunText}

-- The bytes are a valid module of the source's methods, whose run answers each query with its method's number.
pub record IsAnsweringModuleOf (source bytes : List ℕ) : Type 0 where
  pub methods : List Method
  pub spelled : IsSource methods source
  pub short : length bytes ≤ 67108864
  pub tree : Module
  pub written : Written tree bytes
  pub valid : ValidModule tree
  pub runs : Answers methods tree

abbrev pub BuiltModulesAnswer : Type 0
BuiltModulesAnswer = (source bytes : List ℕ) → IsModuleOf source bytes → IsAnsweringModuleOf source bytes

-- The run of actors, of which the first event installs one: its items are that actor's.
pub record IsAnswered (programs : List (List Method)) (events : List Event) (items : List Item) : Type 0 where
  pub number : ℕ
  pub others : List Event
  pub begun : events ≡ event.Install number ∷ others
  pub given : AllByRecursion IsGiven others
  pub methods : List Method
  pub there : slice_get programs number ≡ Some methods
  pub run : IsRunOf methods others items

-- The files hold sources of actors, the script's file a script of events, and the text is the lines of the items of that run.
pub record IsAnsweredText (held : NameMap) (script : List ℕ) (files : List (List ℕ)) (text : List ℕ) : Type 0 where
  pub events : List Event
  pub script_is : HasBytes held script (λ bytes. ScriptOf bytes (length files) events)
  pub programs : List (List Method)
  pub programs_are : AllZip (λ file methods. HasBytes held file (λ source. IsSource methods source)) files programs
  pub items : List Item
  pub run : IsAnswered programs events items
  pub lines : ItemsText items text

abbrev pub RunsAreAnswered : Type 0
RunsAreAnswered = (held : NameMap) (o : Options) (script : List ℕ) (files : List (List ℕ)) (text : List ℕ) → IsRunText held o script files text → IsAnsweredText held script files text
