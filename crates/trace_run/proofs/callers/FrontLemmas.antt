-- A pool that tells what it told up to a place: calls one after another, and answers over what it told at first.
use Rattle.std.proofs.Common.{◌≡◌, ◌≤◌, ◌+◌, ℕ, List, [], ◌∷◌, ◌++◌, Option, Some, None, refl, sym, ap, ◌∙◌, subst, arith}
use Rattle.std.specs.Prelude.{drop, take}
use Rattle.std.specs.Option.{option_map}
use Rattle.std.proofs.lemmas.List.{drop-take, take-take}
use Rattle.blk_ptr.specs.declared.digest.Digest.{Digest}
use Rattle.blk_ptr.specs.declared.key.Key.{Key}
use Rattle.blk_ptr.specs.declared.ptr.Ptr.{Ptr}
use Rattle.blk_ptr.specs.Key.{IsValid, key_end}
use Rattle.blk_ptr.specs.Ptr.{IsOf, range_of, sha256_of}
use Rattle.dbuf_state.specs.declared.window.Window.{Window}
use Rattle.arc_core.specs.declared.served.Served.{Served}
use Rattle.vdev_io.specs.declared.pool.Pool.{Ghosts}
use Rattle.arc_core.specs.declared.config.Config.{Config}
use Rattle.arc_table.specs.declared.view.Line.{Line as Seen}
use Rattle.trace_text.specs.declared.op.Op.{Op}
use Rattle.trace_text.specs.declared.op.Op.TheVariants as ops
use Rattle.trace_text.specs.declared.reply.Refusal.{Refusal}
use Rattle.trace_text.specs.declared.reply.Refusal.TheVariants as refusals
use Rattle.trace_text.specs.declared.reply.Reply.{Reply}
use Rattle.trace_text.specs.declared.reply.Reply.TheVariants as replies
use Rattle.trace_run.specs.Answers.{AnswersHold, AnswersRead, IsReadRefusal, IsWindowRefusal}
use Rattle.trace_run.specs.Deeds.{Noted}
use Rattle.trace_run.specs.KeptReads.{KeptRead}
use Rattle.trace_run.specs.dbufs.ObjectLines.{OnObject, on_object}
use Rattle.trace_run.specs.dbufs.Objects.{Line}
use Rattle.trace_run.specs.Read.{IsMismatch, IsReadOf}
use Rattle.trace_run.specs.Tally.{AnswersNow}
use Rattle.trace_run.specs.one_caller.OneCaller.{kept_after}
use Rattle.trace_run.specs.callers.Group.{LeavesFront, LeavesPool}
use Rattle.trace_run.specs.callers.Together.{IsFirstPlace}
use Rattle.trace_run.specs.callers.WorkLines.{AnswersLine, AnswersLines, HasFront}

-- ---- the pool

none-some : {xs : List ℕ} → ◌≡◌ {A = Option (List ℕ)} None (Some xs) → ⊥
none-some is = cc

some-none : {xs : List ℕ} → ◌≡◌ {A = Option (List ℕ)} (Some xs) None → ⊥
some-none is = cc

some-list : (xs ys : List ℕ) → ◌≡◌ {A = Option (List ℕ)} (Some xs) (Some ys) → xs ≡ ys
some-list xs ys is = cc

-- what agrees up to a place does up to one before it
pub front-less : (a b : ℕ) (x y : Option (List ℕ)) → a ≤ b → option_map (take b) x ≡ option_map (take b) y → option_map (take a) x ≡ option_map (take a) y
front-less a b None None le same = refl
front-less a b None (Some y) le same = absurd (none-some same)
front-less a b (Some x) None le same = absurd (some-none same)
front-less a b (Some x) (Some y) le same = λ i. Some ((sym (take-take a b x le) ∙ (ap (take a) (some-list (take b x) (take b y) same) ∙ take-take a b y le)) i)

module _ {P : Type 0} (pools : Ghosts P) where
  pub pool-front : (place : ℕ) (a b : P) → LeavesPool pools a b → LeavesFront pools place a b
  pool-front place a b leaves = record { size = leaves.size; told = ap (option_map (take place)) leaves.told; faults = leaves.faults }

  pub front-before : (near far : ℕ) (a b : P) → near ≤ far → LeavesFront pools far a b → LeavesFront pools near a b
  front-before near far a b le leaves = record { size = leaves.size; told = front-less near far (pools.told b) (pools.told a) le leaves.told; faults = leaves.faults }

  pub front-same : (place : ℕ) (a : P) → LeavesFront pools place a a
  front-same place a = record { size = refl; told = refl; faults = omega arith }

  pub front-then : (place : ℕ) (a b c : P) → LeavesFront pools place a b → LeavesFront pools place b c → LeavesFront pools place a c
  front-then place a b c first second = record { size = second.size ∙ first.size; told = second.told ∙ first.told; faults = omega (arith, first.faults, second.faults) }

-- ---- answers

-- the bytes of a block that ends before the place
pub range-front : (place : ℕ) (key : Key) (a b : List ℕ) → key_end key ≤ place → take place a ≡ take place b → range_of a key ≡ range_of b key
range-front place key a b le same =
    sym (drop-take key.offset key.size a)
    ∙ (ap (drop key.offset) (sym (take-take (key.offset + key.size) place a le) ∙ (ap (take (key.offset + key.size)) same ∙ take-take (key.offset + key.size) place b le)) ∙ drop-take key.offset key.size b)

module _ (place : ℕ) (ptr : Ptr) (le : key_end ptr.key ≤ place) where
  read-front : (served : Served) (bytes : List ℕ) (image now : Option (List ℕ)) → HasFront place image now → IsReadOf now ptr served bytes → IsReadOf image ptr served bytes
  read-front served bytes None None front r = r
  read-front served bytes (Some b) None front r = absurd (none-some front)
  read-front served bytes None (Some a) front r = absurd (some-none front)
  read-front served bytes (Some b) (Some a) front r =
      let same = range-front place ptr.key a b le (some-list (take place a) (take place b) front) in
      record { of = r.of; range = λ pool. r.range pool ∙ same; plain = λ others plain. r.plain others (plain.0 ∙ sym same, plain.1) }

  mismatch-front : (found : Digest) (image now : Option (List ℕ)) → HasFront place image now → IsMismatch now ptr found → IsMismatch image ptr found
  mismatch-front found None None front r = r
  mismatch-front found (Some b) None front r = absurd (none-some front)
  mismatch-front found None (Some a) front r = absurd (some-none front)
  mismatch-front found (Some b) (Some a) front r =
      let same = range-front place ptr.key a b le (some-list (take place a) (take place b) front) in
      record { bytes = r.bytes; size = r.size; digest = r.digest; other = r.other; plain = subst (λ (l : List ℕ). (found ≡ sha256_of l) × ¬ IsOf l ptr) same r.plain }

-- a line on no object is answered by blocks that end before the place
module _ (len : ℕ) (image now : Option (List ℕ)) (place : ℕ) (front : HasFront place image now) (ptr : Ptr) (behind : IsValid len ptr.key → key_end ptr.key ≤ place) where
  pub refusal-front : (why : Refusal) → IsReadRefusal len now ptr why → IsReadRefusal len image ptr why
  refusal-front refusals.PoolFault r = r
  refusal-front (refusals.Mismatch found) r = (r.0, mismatch-front place ptr (behind r.0) found image now front r.1)
  refusal-front (refusals.Key why) r = r
  refusal-front (refusals.Range end size) r = absurd r
  refusal-front (refusals.NoBlock at) r = absurd r
  refusal-front (refusals.NoHold block) r = absurd r
  refusal-front (refusals.NoPin at) r = absurd r
  refusal-front refusals.NoMemory r = absurd r

  window-front : (window : Window) (why : Refusal) → IsWindowRefusal len now ptr window why → IsWindowRefusal len image ptr window why
  window-front window refusals.PoolFault r = r
  window-front window (refusals.Mismatch found) r = (r.0, refusal-front (refusals.Mismatch found) r.1)
  window-front window (refusals.Key why) r = r
  window-front window (refusals.Range end size) r = r
  window-front window (refusals.NoBlock at) r = absurd r
  window-front window (refusals.NoHold block) r = absurd r
  window-front window (refusals.NoPin at) r = absurd r
  window-front window refusals.NoMemory r = absurd r

  shown-front : (window : Window) (reply : Reply) → AnswersRead len now ptr window reply → AnswersRead len image ptr window reply
  shown-front window (replies.Read served digest shown) r = (r.0, r.1, r.2, (r.3.0, read-front place ptr (behind r.1) served r.3.0 image now front r.3.1, r.3.2))
  shown-front window (replies.Refused why) r = window-front window why r
  shown-front window (replies.Kept served) r = absurd r
  shown-front window replies.Dropped r = absurd r
  shown-front window (replies.Got size shown) r = absurd r
  shown-front window replies.Done r = absurd r
  shown-front window (replies.Fed report) r = absurd r
  shown-front window replies.FedNone r = absurd r
  shown-front window (replies.Synced group blocks bytes) r = absurd r
  shown-front window (replies.Capped c) r = absurd r

  held-front : (reply : Reply) → AnswersHold len now ptr reply → AnswersHold len image ptr reply
  held-front (replies.Kept served) r = (r.0, (r.1.0, read-front place ptr (behind r.0) served r.1.0 image now front r.1.1))
  held-front (replies.Refused why) r = refusal-front why r
  held-front (replies.Read served digest shown) r = absurd r
  held-front replies.Dropped r = absurd r
  held-front (replies.Got size shown) r = absurd r
  held-front replies.Done r = absurd r
  held-front (replies.Fed report) r = absurd r
  held-front replies.FedNone r = absurd r
  held-front (replies.Synced group blocks bytes) r = absurd r
  held-front (replies.Capped c) r = absurd r

now-front : (len : ℕ) (image now : Option (List ℕ)) (place : ℕ) (blocks : List Ptr) → IsFirstPlace len blocks place → HasFront place image now → (kept : List KeptRead) (op : Op) (reply : Reply) → AnswersNow len now blocks kept op reply → AnswersNow len image blocks kept op reply
now-front len image now place blocks first front kept (ops.Read n t x window) reply answer = (answer.0, answer.1, shown-front len image now place front answer.0 (first.behind x answer.0 answer.1) window reply answer.2)
now-front len image now place blocks first front kept (ops.Hold n t x) reply answer = (answer.0, answer.1, held-front len image now place front answer.0 (first.behind x answer.0 answer.1) reply answer.2)
now-front len image now place blocks first front kept (ops.Drop n x) reply answer = answer
now-front len image now place blocks first front kept (ops.Cap c) reply answer = answer
now-front len image now place blocks first front kept (ops.Txg t) reply answer = absurd answer
now-front len image now place blocks first front kept ops.Feed reply answer = absurd answer
now-front len image now place blocks first front kept (ops.Get n t at window) reply answer = absurd answer
now-front len image now place blocks first front kept (ops.Put n t at size fill) reply answer = absurd answer
now-front len image now place blocks first front kept (ops.Patch n t at from bytes) reply answer = absurd answer
now-front len image now place blocks first front kept (ops.Pin n t at) reply answer = absurd answer
now-front len image now place blocks first front kept (ops.Unpin n at) reply answer = absurd answer

module _ (g : Config) (len : ℕ) (image now : Option (List ℕ)) (place : ℕ) (blocks : List Ptr) (first : IsFirstPlace len blocks place) (front : HasFront place image now) (openings : List (List ℕ)) (seen : List (List Seen)) (n : ℕ) where
  one-front : (o : Option OnObject) (l : Line) (had : List Noted) (kept : List KeptRead) → AnswersLine g len now place blocks openings seen n had kept o l → AnswersLine g len image place blocks openings seen n had kept o l
  one-front None l had kept answer = now-front len image now place blocks first front kept l.op l.reply answer
  one-front (Some on) l had kept answer = (answer.0, answer.1 ∙ front, answer.2)

  -- lines that were answered over what is told now have their answers over what was told at first
  pub answers-front : (had : List Noted) (kept : List KeptRead) (ls : List Line) → AnswersLines g len now place blocks openings seen n had kept ls → AnswersLines g len image place blocks openings seen n had kept ls
  answers-front had kept [] answers = tt
  answers-front had kept (l ∷ ls) answers = (one-front (on_object l.op) l had kept answers.0, answers-front (had ++ l.work.noted) (kept_after blocks l.op l.reply kept) ls answers.1)
