-- A caller's lines over the shared cache: what all of them told, did and answered, one after another.
use Rattle.std.proofs.Common.{◌≡◌, ℕ, suc, ◌+◌, Bool, true, false, cond, IfSome, List, [], ◌∷◌, ◌++◌, length, take, Option, Some, refl, sym, ap, ◌∙◌, subst, arith, append_assoc, append-nil, length-append}
use Rattle.std.specs.Prelude.{filter, slice_get}
use Rattle.std.proofs.lemmas.List.Elements.{filter-append}
use Rattle.blk_ptr.specs.declared.ptr.Ptr.{Ptr}
use Rattle.vdev_io.specs.declared.pool.Pool.{Ghosts}
use Rattle.arc_core.specs.declared.config.Config.{Config}
use Rattle.arc_core.specs.declared.event.Event.{Event}
use Rattle.arc_core.specs.Operations.{Act}
use Rattle.arc_core.specs.PlainShard.{PlainShard}
use Rattle.arc_core.specs.Replay.{replay}
use Rattle.arc_core.proofs.Stepping.{replay-append}
use Rattle.turn_table.specs.Places.{Place}
use Rattle.arc_table.specs.declared.view.Known.{Known}
use Rattle.vdev_io.specs.Calls.{MakesCalls}
use Rattle.trace_text.specs.declared.op.Op.{Op}
use Rattle.trace_text.specs.declared.reply.Reply.{Reply}
use Rattle.trace_run.specs.KeptReads.{KeptRead}
use Rattle.trace_run.specs.Acts.{acts_of, acts_of_all}
use Rattle.trace_run.specs.Answers.{AnswersAll}
use Rattle.trace_run.specs.callers.CallerLines.{At, DidLine, DidLines}
use Rattle.trace_run.specs.Effects.{calls_of, calls_of_all, effect_of}
use Rattle.arc_table.specs.Telling.{opening_of}
use Rattle.trace_run.specs.Lines.{caller_of, is_of_caller}
use Rattle.trace_run.specs.one_caller.OneCaller.{IsFoundAs, events_of_op_in, kept_after, kept_after_all}
use Rattle.trace_run.specs.one_caller.OverShards.{AllLinesOver, AreNamed, events_over, shards_after_op}
use Rattle.trace_run.specs.Reads.{now_of}
use Rattle.arc_table.specs.Seen.{HasAll, seen_of}
use Rattle.trace_run.specs.Tally.{AnswersNow, IsTally, kept_of_block}
use Rattle.trace_run.specs.Deeds.{HasToldAll, Noted}
use Rattle.trace_run.proofs.AnswerLemmas.{EachAnswers, more_answers, more_tally, take_one, to_answer}
use Rattle.trace_run.proofs.LineLemmas.{named-after}
use Rattle.trace_run.proofs.RunLemmas.{calls-then}

-- ---- which operations are a caller's

-- one operation more, of this caller or of another
pub his-more : (n : ℕ) (ops : List Op) (i : ℕ) (op : Op) → slice_get ops i ≡ Some op → is_of_caller n op ≡ true → filter (is_of_caller n) (take (i + 1) ops) ≡ filter (is_of_caller n) (take i ops) ++ op ∷ []
his-more n ops i op at his =
    ap (filter (is_of_caller n)) (take_one ops i op at)
    ∙ (filter-append (is_of_caller n) (take i ops) (op ∷ []) ∙ ap (λ (b : Bool). filter (is_of_caller n) (take i ops) ++ cond b (op ∷ []) []) his)

pub others-more : (n : ℕ) (ops : List Op) (i : ℕ) (op : Op) → slice_get ops i ≡ Some op → is_of_caller n op ≡ false → filter (is_of_caller n) (take (i + 1) ops) ≡ filter (is_of_caller n) (take i ops)
others-more n ops i op at other =
    ap (filter (is_of_caller n)) (take_one ops i op at)
    ∙ (filter-append (is_of_caller n) (take i ops) (op ∷ [])
    ∙ (ap (λ (b : Bool). filter (is_of_caller n) (take i ops) ++ cond b (op ∷ []) []) other ∙ append-nil (filter (is_of_caller n) (take i ops))))

-- ---- lines one after another

get-after : (done os : List Op) (o : Op) → slice_get (done ++ o ∷ os) (length done) ≡ Some o
get-after [] os o = refl
get-after (x ∷ xs) os o = get-after xs os o

module _ {C P : Type 0} (g : Config) (pools : Ghosts P) (blocks : List Ptr) where
  -- lines, and then others
  pub lines-then : (os qs : List Op) (rs ss : List Reply) (a b c : At C P) → DidLines g pools blocks os rs a b → DidLines g pools blocks qs ss b c → DidLines g pools blocks (os ++ qs) (rs ++ ss) a c
  lines-then [] qs [] ss a b c first second = subst (λ (x : At C P). DidLines g pools blocks qs ss x c) first second
  lines-then [] qs (r ∷ rs) ss a b c first second = absurd first
  lines-then (o ∷ os) qs [] ss a b c first second = absurd first
  lines-then (o ∷ os) qs (r ∷ rs) ss a b c first second = (first.0, first.1, lines-then os qs rs ss first.0 b c first.2 second)

  -- one line more
  pub lines-more : (os : List Op) (rs : List Reply) (o : Op) (r : Reply) (a b c : At C P) → DidLines g pools blocks os rs a b → DidLine g pools blocks o r b c → DidLines g pools blocks (os ++ o ∷ []) (rs ++ r ∷ []) a c
  lines-more os rs o r a b c did one = lines-then os (o ∷ []) rs (r ∷ []) a b c did (c, one, refl)

  pub lines-length : (os : List Op) (rs : List Reply) (a b : At C P) → DidLines g pools blocks os rs a b → length rs ≡ length os
  lines-length [] [] a b did = refl
  lines-length [] (r ∷ rs) a b did = absurd did
  lines-length (o ∷ os) [] a b did = absurd did
  lines-length (o ∷ os) (r ∷ rs) a b did = ap suc (lines-length os rs did.0 b did.2)

  -- the acts of all lines are told
  pub lines-told : (os : List Op) (rs : List Reply) (a b : At C P) → DidLines g pools blocks os rs a b → (before : List Act) (noted : List Noted) → HasToldAll g before noted a.party → HasToldAll g (before ++ acts_of_all blocks a.kept os rs) noted b.party
  lines-told [] [] a b did before noted told = subst (λ (x : List Act × Place (Known C)). HasToldAll g x.0 noted x.1) (λ h. (sym (append-nil before) h, (sym did h).party)) told
  lines-told [] (r ∷ rs) a b did before noted told = absurd did
  lines-told (o ∷ os) [] a b did before noted told = absurd did
  lines-told (o ∷ os) (r ∷ rs) a b did before noted told =
      let one = did.1 in
      let rest = lines-told os rs did.0 b did.2 (before ++ acts_of blocks a.kept o r) noted (one.did.told before noted told) in
      subst (λ (l : List Act). HasToldAll g l noted b.party)
      (append_assoc before (acts_of blocks a.kept o r) (acts_of_all blocks did.0.kept os rs) ∙ ap (λ (ks : List KeptRead). before ++ (acts_of blocks a.kept o r ++ acts_of_all blocks ks os rs)) one.kept)
      rest

  -- the reads that are kept then
  pub lines-kept : (os : List Op) (rs : List Reply) (a b : At C P) → DidLines g pools blocks os rs a b → b.kept ≡ kept_after_all blocks a.kept os rs
  lines-kept [] [] a b did = ap (λ (x : At C P). x.kept) did
  lines-kept [] (r ∷ rs) a b did = absurd did
  lines-kept (o ∷ os) [] a b did = absurd did
  lines-kept (o ∷ os) (r ∷ rs) a b did = lines-kept os rs did.0 b did.2 ∙ ap (λ (ks : List KeptRead). kept_after_all blocks ks os rs) did.1.kept

  -- each still holds the entry of its own block
  pub line-named : (o : Op) (r : Reply) (a b : At C P) → AreNamed blocks a.kept → DidLine g pools blocks o r a b → AreNamed blocks b.kept
  line-named o r a b named did = subst (AreNamed blocks) (sym did.kept) (named-after blocks o r a.kept named)

  pub lines-named : (os : List Op) (rs : List Reply) (a b : At C P) → AreNamed blocks a.kept → DidLines g pools blocks os rs a b → AreNamed blocks b.kept
  lines-named [] [] a b named did = subst (λ (x : At C P). AreNamed blocks x.kept) (sym did) named
  lines-named [] (r ∷ rs) a b named did = absurd did
  lines-named (o ∷ os) [] a b named did = absurd did
  lines-named (o ∷ os) (r ∷ rs) a b named did = lines-named os rs did.0 b (line-named o r a did.0 named did.1) did.2

  -- the pool was read once for each reply that says so, in their order
  pub lines-calls : (os : List Op) (rs : List Reply) (a b : At C P) → DidLines g pools blocks os rs a b → MakesCalls pools (calls_of_all rs) a.pool b.pool
  lines-calls [] [] a b did = ap (λ (x : At C P). x.pool) did
  lines-calls [] (r ∷ rs) a b did = absurd did
  lines-calls (o ∷ os) [] a b did = absurd did
  lines-calls (o ∷ os) (r ∷ rs) a b did = calls-then pools (calls_of (effect_of r)) (calls_of_all rs) a.pool did.0.pool b.pool did.1.calls (lines-calls os rs did.0 b did.2)

  -- ---- a caller that is alone

  pub lines-all : (os : List Op) (rs : List Reply) (a b : At C P) → DidLines g pools blocks os rs a b → HasAll a.party → HasAll b.party
  lines-all [] [] a b did alone = subst (λ (x : At C P). HasAll x.party) (sym did) alone
  lines-all [] (r ∷ rs) a b did alone = absurd did
  lines-all (o ∷ os) [] a b did alone = absurd did
  lines-all (o ∷ os) (r ∷ rs) a b did alone = lines-all os rs did.0 b did.2 (did.1.did.all alone)

  -- what it finds after one line
  pub line-now : (o : Op) (r : Reply) (a b : At C P) → DidLine g pools blocks o r a b → HasAll a.party → (shard : ℕ)
      → now_of g shard b.party ≡ shards_after_op g.shards blocks (λ i. now_of g i a.party) a.kept o r shard
  line-now o r a b did alone shard =
      let es : List Event = events_of_op_in g.shards blocks shard (now_of g shard a.party) a.kept o r in
      ap (replay (opening_of g)) (did.did.alone alone shard) ∙ replay-append (opening_of g) (seen_of g shard a.party) es

  -- it has seen the events of its lines more, in each shard
  pub lines-seen : (os : List Op) (rs : List Reply) (a b : At C P) → DidLines g pools blocks os rs a b → HasAll a.party → (shard : ℕ)
      → seen_of g shard b.party ≡ seen_of g shard a.party ++ events_over g.shards blocks (λ i. now_of g i a.party) a.kept shard os rs
  lines-seen [] [] a b did alone shard = ap (λ (x : At C P). seen_of g shard x.party) did ∙ sym (append-nil (seen_of g shard a.party))
  lines-seen [] (r ∷ rs) a b did alone shard = absurd did
  lines-seen (o ∷ os) [] a b did alone shard = absurd did
  lines-seen (o ∷ os) (r ∷ rs) a b did alone shard =
      let next = did.0 in
      let one = did.1 in
      let now : ℕ → PlainShard = λ i. now_of g i a.party in
      let rest = lines-seen os rs next b did.2 (one.did.all alone) shard in
      let same : (λ (i : ℕ). now_of g i next.party) ≡ shards_after_op g.shards blocks now a.kept o r = λ h i. line-now o r a next one alone i h in
      let more : List Event = events_of_op_in g.shards blocks shard (now shard) a.kept o r in
      rest
      ∙ ((λ h. seen_of g shard next.party ++ events_over g.shards blocks (same h) (one.kept h) shard os rs)
      ∙ (ap (λ (l : List Event). l ++ events_over g.shards blocks (shards_after_op g.shards blocks now a.kept o r) (kept_after blocks o r a.kept) shard os rs) (one.did.alone alone shard)
      ∙ append_assoc (seen_of g shard a.party) more (events_over g.shards blocks (shards_after_op g.shards blocks now a.kept o r) (kept_after blocks o r a.kept) shard os rs)))

  -- each answered read names where its access found the bytes
  pub lines-found : (os : List Op) (rs : List Reply) (a b : At C P) → DidLines g pools blocks os rs a b → HasAll a.party
      → AllLinesOver (λ s kept op reply. IsFoundAs blocks s op reply) g.shards blocks (λ i. now_of g i a.party) a.kept os rs
  lines-found [] [] a b did alone = tt
  lines-found [] (r ∷ rs) a b did alone = absurd did
  lines-found (o ∷ os) [] a b did alone = absurd did
  lines-found (o ∷ os) (r ∷ rs) a b did alone =
      let next = did.0 in
      let one = did.1 in
      let rest = lines-found os rs next b did.2 (one.did.all alone) in
      let same : (λ (i : ℕ). now_of g i next.party) ≡ shards_after_op g.shards blocks (λ i. now_of g i a.party) a.kept o r = λ h i. line-now o r a next one alone i h in
      (one.found alone, subst (λ (x : (ℕ → PlainShard) × List KeptRead). AllLinesOver (λ s kept op reply. IsFoundAs blocks s op reply) g.shards blocks x.0 x.1 os rs) (λ h. (same h, one.kept h)) rest)

  -- ---- each has its answer

  -- the answers so far, and those to what is left
  lines-each : (pool_len : ℕ) (image : Option (List ℕ)) (caller : ℕ) (all : List Op) → ((k : ℕ) (op : Op) → slice_get all k ≡ Some op → IfSome (caller_of op) (λ n. n ≡ caller))
      → (done os : List Op) (replied rs : List Reply) (a b : At C P) → all ≡ done ++ os → length replied ≡ length done → pools.size a.pool ≡ pool_len → pools.told a.pool ≡ image
      → IsTally caller (take (length replied) all) replied a.kept → EachAnswers pool_len image blocks all replied → DidLines g pools blocks os rs a b → EachAnswers pool_len image blocks all (replied ++ rs)
  lines-each pool_len image caller all own done [] replied [] a b is count size told tally each did = subst (EachAnswers pool_len image blocks all) (sym (append-nil replied)) each
  lines-each pool_len image caller all own done [] replied (r ∷ rs) a b is count size told tally each did = absurd did
  lines-each pool_len image caller all own done (o ∷ os) replied [] a b is count size told tally each did = absurd did
  lines-each pool_len image caller all own done (o ∷ os) replied (r ∷ rs) a b is count size told tally each did =
      let next = did.0 in
      let one = did.1 in
      let answer : AnswersNow pool_len image blocks a.kept o r = subst (λ (x : ℕ × Option (List ℕ)). AnswersNow x.0 x.1 blocks a.kept o r) (λ h. (size h, told h)) one.answer in
      let here : slice_get all (length replied) ≡ Some o = ap (λ (l : List Op). slice_get l (length replied)) is ∙ (ap (slice_get (done ++ o ∷ os)) count ∙ get-after done os o) in
      let his : IfSome (caller_of o) (λ n. n ≡ caller) = own (length replied) o here in
      let more : length replied + 1 ≡ length (replied ++ r ∷ []) = let l = length-append replied (r ∷ []) in omega arith in
      let now : EachAnswers pool_len image blocks all (replied ++ r ∷ []) = more_answers pool_len image blocks all replied o r here each (to_answer pool_len image blocks caller (take (length replied) all) replied a.kept o r tally his answer) in
      let tally_then : IsTally caller (take (length (replied ++ r ∷ [])) all) (replied ++ r ∷ []) next.kept =
      subst (λ (x : ℕ × List KeptRead). IsTally caller (take x.0 all) (replied ++ r ∷ []) x.1) (λ h. (more h, sym one.kept h)) (more_tally pool_len image blocks caller all replied a.kept o r here tally his answer) in
      subst (EachAnswers pool_len image blocks all) (append_assoc replied (r ∷ []) rs)
      (lines-each pool_len image caller all own (done ++ o ∷ []) os (replied ++ r ∷ []) rs next b (is ∙ sym (append_assoc done (o ∷ []) os)) (let l = length-append replied (r ∷ []) in let m = length-append done (o ∷ []) in omega arith)
      (one.keeps.size ∙ size) (one.keeps.told ∙ told) tally_then now did.2)

  -- all lines of a caller that kept nothing
  pub lines-answered : (caller : ℕ) (os : List Op) (rs : List Reply) (a b : At C P) → ((k : ℕ) (op : Op) → slice_get os k ≡ Some op → IfSome (caller_of op) (λ n. n ≡ caller)) → a.kept ≡ []
      → DidLines g pools blocks os rs a b → AnswersAll (pools.size a.pool) (pools.told a.pool) blocks os rs
  lines-answered caller os rs a b own none did = record {
    all = lines-length os rs a b did;
    each = lines-each (pools.size a.pool) (pools.told a.pool) caller os own [] os [] rs a b refl refl refl refl
        (record { each = λ x. ap (λ (ks : List KeptRead). kept_of_block x ks + 0) none }) (λ k op reply at there. nothing-there k reply there) did;
  }
    where
      nothing-there : {X : Type 0} (k : ℕ) (reply : Reply) → slice_get {X = Reply} [] k ≡ Some reply → X
      nothing-there k reply there = cc
