-- The replies to several callers and to the feeder, put together in the order of the trace's lines.
use Rattle.std.specs.Prelude.{◌≡◌, ◌⊎◌, ◌<◌, ℕ, true, List, Some, filter, length, slice_get}
use mathlib.Core.Option.{some}
use lib.ListN.{get_elem?}
use Rattle.trace_text.specs.declared.op.Op.{Op}
use Rattle.trace_text.specs.declared.reply.Reply.{Reply}
use Rattle.trace_run.specs.Feeds.{is_feed}
use Rattle.trace_run.specs.Lines.{caller_of, is_of_caller, replies_where}

-- each of these lines is one of so many callers, or asks for a feed
abbrev pub AreInGroup : (callers : ℕ) → List Op → Type 0
AreInGroup callers ops = (k : ℕ) (op : Op) → slice_get ops k ≡ Some op → ((n : ℕ) × (caller_of op ≡ Some n) × (n < callers)) ⊎ (is_feed op ≡ true)

-- there is a list of replies for each operation's caller, and each list has as many as there are operations of its caller; and the feeder has one for each feed
pub record HaveReplies (ops : List Op) (replies : List (List Reply)) (fed : List Reply) : Type 0 where
  pub own : AreInGroup (length replies) ops
  pub each : (n : ℕ) → n < length replies → (rs : List Reply) × (get_elem? replies n ≡ some rs) × (length rs ≡ length (filter (is_of_caller n) ops))
  pub feeds : length fed ≡ length (filter is_feed ops)

-- there is one reply for each operation, those to a caller's operations are the caller's own, in their order, and those to the feeds are the feeder's
pub record AreInOrder (ops : List Op) (replies : List (List Reply)) (fed merged : List Reply) : Type 0 where
  pub all : length merged ≡ length ops
  pub each : (n : ℕ) (rs : List Reply) → get_elem? replies n ≡ some rs → replies_where (is_of_caller n) ops merged ≡ rs
  pub feeds : replies_where is_feed ops merged ≡ fed
