-- A language for worked rows: the store of its actors is a number, and a body is a list of commands.
use Rattle.std.specs.Prelude.{ℕ, List, [], ◌∷◌, ◌++◌, length, Bool, true, false, Option, Some, None, cond, nat_lt, codes}
use Rattle.std.specs.Str.{bytes_eq}
use Rattle.mo_actor.specs.Languages.{Language, language}

-- What a call gives: nothing, a number, or a text, which is seen by its length.
pub data Results : Type 0 where
  NoResult : Results
  ANumber : Results
  AText : Results

pub data Value : Type 0 where
  Number : (n : ℕ) → Value
  Error : (message : List ℕ) → Value

pub data Command : Type 0 where
  -- adds to the store
  Add : (n : ℕ) → Command
  -- the number of the body is the store's now
  Load : Command
  -- and the other way round
  Put : Command
  -- adds to the number of the body
  Increase : (n : ℕ) → Command
  Print : (text : List ℕ) → Command
  -- makes a call, whose future goes behind the body's others
  Send : (callee method : List ℕ) → (results : Results) → Command
  -- adds what the future at this place gives to the number of the body
  Await : (place : ℕ) → Command
  -- the same, but an error ends the body with its message as the reply
  TryAwait : (place : ℕ) → Command
  ReplyNumber : Command
  ReplyText : (text : List ℕ) → Command
  Throw : (message : List ℕ) → Command
  Trap : (text : List ℕ) → Command
  -- costs so much more
  Work : (weight : ℕ) → Command
  -- goes on for ever
  Spin : Command

pub record Body : Type 0 where
  pub commands : List Command
  pub number : ℕ
  -- the numbers of the calls that it made
  pub futures : List ℕ

-- a body behind its `await`
pub record Waiting : Type 0 where
  pub caught : Bool
  pub body : Body

-- the values of the stable variables with their type
pub record Kept : Type 0 where
  pub of_type : Results
  pub number : ℕ

-- A method is its commands.
abbrev pub command_language : Language
command_language = language ℕ Body Waiting Results Value (List Command) Kept

-- ---- messages: Candid specification, section "Serialization". Numbers below 128 and texts of fewer bytes are told by one byte.

abbrev pub empty : List ℕ
empty = codes "DIDL" ++ 0 ∷ 0 ∷ []

abbrev pub nat_message : ℕ → List ℕ
nat_message n = codes "DIDL" ++ 0 ∷ 1 ∷ 0x7d ∷ n ∷ []

abbrev pub text_message : List ℕ → List ℕ
text_message text = codes "DIDL" ++ 0 ∷ 1 ∷ 0x71 ∷ length text ∷ text

abbrev pub number_in : List ℕ → Option Value
number_in (d ∷ i ∷ d' ∷ l ∷ types ∷ count ∷ of_type ∷ n ∷ []) =
    cond (bytes_eq (d ∷ i ∷ d' ∷ l ∷ types ∷ count ∷ of_type ∷ n ∷ []) (nat_message n)) (cond (nat_lt n 128) (Some (Number n)) None) None
number_in _ = None

abbrev pub text_in : List ℕ → Option Value
text_in (d ∷ i ∷ d' ∷ l ∷ types ∷ count ∷ of_type ∷ n ∷ text) =
    cond (bytes_eq (d ∷ i ∷ d' ∷ l ∷ types ∷ count ∷ of_type ∷ n ∷ text) (text_message text)) (Some (Number (length text))) None
text_in _ = None

abbrev pub value_read : Results → List ℕ → Option Value
value_read NoResult bytes = cond (bytes_eq bytes empty) (Some (Number 0)) None
value_read ANumber bytes = number_in bytes
value_read AText bytes = text_in bytes

abbrev pub same_results : Results → Results → Bool
same_results NoResult NoResult = true
same_results ANumber ANumber = true
same_results AText AText = true
same_results _ _ = false
