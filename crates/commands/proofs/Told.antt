-- An answer that is told.
use Rattle.std.proofs.Common.{◌≡◌, ℕ, List, Option, Some, None, refl, subst, arith}
use Rattle.std.specs.Prelude.{Ok, Err, Result, IfOk}
use Rattle.std.specs.Option.{option_map}
use Rattle.address.specs.declared.Address.{Ghosts}
use Rattle.model.specs.Calls.{Answer}
use Rattle.model.specs.Outcomes.{Outcome, granted, refused}
use Rattle.routes.specs.declared.Route.{Route}
use Rattle.pair.specs.declared.failed.Failed.{Failed}
use Rattle.pair.specs.declared.failed.Failed.TheVariants.{Refused as WasRefused, NoMemory, Differ}
use Rattle.routes.specs.Meant.{meant}
use Rattle.replies.specs.Told.{found_spelled}
use Rattle.replies.specs.Words.{FoundWords}
use Rattle.commands.specs.Replies.{Comes, Replies, Tells, ToldSomehow}
use Rattle.replies.specs.declared.reply.Reply.{Reply}
use Rattle.replies.specs.declared.reply.Stop.{Stop}
use Rattle.commands.proofs.Made.{made_so}
use Rattle.replies.specs.declared.reply.Reply.TheVariants.{Silence, Remark, Answered, Refused, Misread, Switched}

-- a reply to a result tells what the result comes to,
pub tells : {T : Type 0} (words : T → List ℕ) (Words : Answer → List ℕ → Type 0) (asked : List ℕ) (result : Result T Failed) (o : Outcome Answer) (reply : Reply)
    → Replies asked (λ x. Some (words x)) result reply → Comes words Words result o → Tells asked Words o reply
tells words Words asked (Ok x) (granted a) (Answered text) r c = (words x, c, r)
tells words Words asked (Ok x) (granted a) Silence r c = absurd r
tells words Words asked (Ok x) (granted a) (Remark t) r c = absurd r
tells words Words asked (Ok x) (granted a) (Refused text) r c = absurd r
tells words Words asked (Ok x) (granted a) (Misread n m) r c = absurd r
tells words Words asked (Ok x) (granted a) (Switched k) r c = absurd r
tells words Words asked (Ok x) (refused number layer place) reply r c = absurd c
tells words Words asked (Err (WasRefused f)) (granted a) reply r c = absurd (let z : ◌≡◌ {A = ℕ} 0 1 = cc in omega arith)
tells words Words asked (Err (WasRefused f)) (refused number layer place) (Refused text) r c = (f.refusal, cc, r)
tells words Words asked (Err (WasRefused f)) (refused number layer place) Silence r c = absurd r
tells words Words asked (Err (WasRefused f)) (refused number layer place) (Remark t) r c = absurd r
tells words Words asked (Err (WasRefused f)) (refused number layer place) (Answered text) r c = absurd r
tells words Words asked (Err (WasRefused f)) (refused number layer place) (Misread n m) r c = absurd r
tells words Words asked (Err (WasRefused f)) (refused number layer place) (Switched k) r c = absurd r
tells words Words asked (Err NoMemory) o reply r c = absurd r
tells words Words asked (Err Differ) o reply r c = absurd r

-- and is an answer or a refusal in some words
pub tells_somehow : {T : Type 0} (words : T → List ℕ) (asked : List ℕ) (result : Result T Failed) (reply : Reply)
    → Replies asked (λ x. Some (words x)) result reply → ToldSomehow asked reply
tells_somehow words asked (Ok x) (Answered text) r = (words x, r)
tells_somehow words asked (Ok x) Silence r = absurd r
tells_somehow words asked (Ok x) (Remark t) r = absurd r
tells_somehow words asked (Ok x) (Refused text) r = absurd r
tells_somehow words asked (Ok x) (Misread n m) r = absurd r
tells_somehow words asked (Ok x) (Switched k) r = absurd r
tells_somehow words asked (Err (WasRefused f)) (Refused text) r = (f.refusal, r)
tells_somehow words asked (Err (WasRefused f)) Silence r = absurd r
tells_somehow words asked (Err (WasRefused f)) (Remark t) r = absurd r
tells_somehow words asked (Err (WasRefused f)) (Answered text) r = absurd r
tells_somehow words asked (Err (WasRefused f)) (Misread n m) r = absurd r
tells_somehow words asked (Err (WasRefused f)) (Switched k) r = absurd r
tells_somehow words asked (Err NoMemory) reply r = absurd r
tells_somehow words asked (Err Differ) reply r = absurd r

-- so a reply that is made tells what the call comes to
pub tells_so : {T : Type 0} (words : T → List ℕ) (Words : Answer → List ℕ → Type 0) (asked spelled : List ℕ) → spelled ≡ asked
    → (result : Result T Failed) (o : Outcome Answer) (r : Result Reply Stop)
    → IfOk r (Replies spelled (λ x. Some (words x)) result) → Comes words Words result o → IfOk r (Tells asked Words o)
tells_so words Words asked spelled e result o r h c =
    made_so r h (λ reply k. subst (λ l. Tells l Words o reply) e (tells words Words spelled result o reply k c))
