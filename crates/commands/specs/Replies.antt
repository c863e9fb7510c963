-- What is replied to a command.
use Rattle.std.specs.Prelude.{◌≡◌, ℕ, true, ⊤, List, ◌++◌, length, Option, Ok, Err, Result, IfSome, codes, string_bytes, vec_items}
use Rattle.bits.specs.Rows.{Bits}
use Rattle.faults.specs.declared.Refusal.{Refusal}
use Rattle.faults.specs.Numbers.{number_of, refusal_told}
use Rattle.model.specs.Calls.{Answer, open_with, insert, delete, lookup, exact, first, next, counts, answer, shut}
use Rattle.model.specs.Outcomes.{Outcome, granted, refused, is_granted}
use Rattle.pair.specs.declared.failed.Failed.{Failed}
use Rattle.pair.specs.declared.failed.Failed.TheVariants.{Refused as WasRefused, NoMemory, Differ}
use Rattle.commands.specs.Stands.{Standing, memory_of}
use Rattle.replies.specs.Words.{OpenedWords, InsertedWords, DeletedWords, HopWords, CountedWords, RouteAnswerWords, MatchedWords}
use Rattle.commands.specs.declared.command.Command.{Command}
use Rattle.commands.specs.declared.command.Command.TheVariants.{Kind, Open, Insert, Delete, Lookup, Exact, First, Next, Counts, List as ListAll, Nodes, Help}
use Rattle.replies.specs.declared.reply.Reply.{Reply}
use Rattle.replies.specs.declared.reply.Stop.{Stop}
use Rattle.replies.specs.declared.reply.Stop.TheVariants as Stopped
use Rattle.replies.specs.declared.reply.Reply.TheVariants.{Answered, Refused, Switched}
use Rattle.replies.specs.Told.{told, prefix_spelled, help_told}

-- a result, whose answer has these words, is what the call comes to; want of memory is answered only where the call is granted, and where the two
-- engines differ nothing is said
abbrev pub Comes : {T : Type 0} → (T → List ℕ) → (Answer → List ℕ → Type 0) → Result T Failed → Outcome Answer → Type 0
Comes words Words (Ok x) (granted a) = Words a (words x)
Comes words Words (Ok x) (refused number layer place) = ⊥
Comes words Words (Err (WasRefused f)) o = refused (number_of f.refusal) f.layer f.place ≡ o
Comes words Words (Err NoMemory) o = is_granted o ≡ true
Comes words Words (Err Differ) o = ⊤

module _ (asked : List ℕ) where
  -- an answer is told as such, a refusal as such, and want of memory is not told at all
  abbrev pub Replies : {T : Type 0} → (T → Option (List ℕ)) → Result T Failed → Reply → Type 0
  Replies output (Ok x) (Answered text) = IfSome (output x) (λ words. string_bytes text ≡ told asked words)
  Replies output (Ok x) _ = ⊥
  Replies output (Err (WasRefused fault)) (Refused text) = string_bytes text ≡ told asked (refusal_told fault.refusal)
  Replies output (Err (WasRefused fault)) _ = ⊥
  Replies output (Err NoMemory) _ = ⊥
  Replies output (Err Differ) _ = ⊥

  -- what a call comes to, told: an answer in its words, a refusal by its number in the words of that
  abbrev pub Tells : (Answer → List ℕ → Type 0) → Outcome Answer → Reply → Type 0
  Tells Words (granted a) (Answered text) = (words : List ℕ) × Words a words × (string_bytes text ≡ told asked words)
  Tells Words (granted a) _ = ⊥
  Tells Words (refused number layer place) (Refused text) =
      (r : Refusal) × (number_of r ≡ number) × (string_bytes text ≡ told asked (refusal_told r))
  Tells Words (refused number layer place) _ = ⊥

  -- an answer in some words, or a refusal
  abbrev pub ToldSomehow : Reply → Type 0
  ToldSomehow (Answered text) = (words : List ℕ) × (string_bytes text ≡ told asked words)
  ToldSomehow (Refused text) = (r : Refusal) × (string_bytes text ≡ told asked (refusal_told r))
  ToldSomehow _ = ⊥

-- the reply to an opening, which a shut list for so many nodes answers
abbrev pub OpenReplied : ℕ → ℕ → List ℕ → Reply → Type 0
OpenReplied W nodes strides = Tells (codes "open") (OpenedWords (memory_of nodes) (length strides)) (answer W (memory_of nodes) shut (open_with strides))

module _ {X : Type 0} (W : ℕ) (bits : X → Bits) (spelled : X → List ℕ) where
  -- each call is told as the plain list answers it; of all routes, and of the drawing of the nodes, it is not said which words tell them
  abbrev pub Replied : Command X → Standing → Reply → Type 0
  Replied (Kind kind) s reply = reply ≡ Switched kind
  Replied (Open nodes strides) s reply = OpenReplied W nodes (vec_items strides) reply
  Replied (Insert p hop) s reply =
      Tells (codes "insert " ++ prefix_spelled spelled p) (InsertedWords hop) (answer W s.nodes s.plain (insert (bits p.address) p.length hop)) reply
  Replied (Delete p) s reply =
      Tells (codes "delete " ++ prefix_spelled spelled p) DeletedWords (answer W s.nodes s.plain (delete (bits p.address) p.length)) reply
  Replied (Lookup address) s reply =
      Tells (codes "lookup " ++ spelled address) (MatchedWords bits spelled) (answer W s.nodes s.plain (lookup (bits address))) reply
  Replied (Exact p) s reply =
      Tells (codes "exact " ++ prefix_spelled spelled p) HopWords (answer W s.nodes s.plain (exact (bits p.address) p.length)) reply
  Replied First s reply = Tells (codes "first") (RouteAnswerWords bits spelled) (answer W s.nodes s.plain first) reply
  Replied (Next p) s reply =
      Tells (codes "next " ++ prefix_spelled spelled p) (RouteAnswerWords bits spelled) (answer W s.nodes s.plain (next (bits p.address) p.length)) reply
  Replied Counts s reply = Tells (codes "counts") CountedWords (answer W s.nodes s.plain counts) reply
  Replied ListAll s reply = ToldSomehow (codes "list") reply
  Replied Nodes s reply = ToldSomehow (codes "nodes") reply
  Replied Help s (Answered text) = string_bytes text ≡ help_told
  Replied Help s _ = ⊥

-- no difference of the engines is reported
abbrev pub Undisputed : Result Reply Stop → Type 0
Undisputed (Ok reply) = ⊤
Undisputed (Err Stopped.NoMemory) = ⊤
Undisputed (Err Stopped.Differ) = ⊥
