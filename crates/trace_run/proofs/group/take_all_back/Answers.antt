use Rattle.std.proofs.Common.{◌≡◌, ◌++◌, [], ◌∷◌, List, false, Global, Vec, map, sym, ap, ◌∙◌, subst, arith, append_assoc, append-nil}
use Rattle.std.specs.Prelude.{Err, Ok, OnOk, Result, is_err}
use Rattle.std.proofs.lemmas.Bool.{false≢true}
use Rattle.turn_table.specs.Places.{Place}
use Rattle.arc_table.specs.declared.view.Known.{Known}
use Rattle.arc_table.proofs.Ends.{nothing_left}
use Rattle.trace_text.specs.declared.reply.Reply.{Reply}
use Rattle.trace_run.specs.Devices.{lent_in}
use Rattle.trace_run.specs.callers.DeviceForks.{TakesForksBack}
use Rattle.trace_run.specs.callers.Callers.{AbsorbsAll, AllReplied}
use Rattle.trace_run.specs.declared.group.Caller.{Caller}
use Rattle.trace_run.specs.declared.kept_blocks.KeptBlock.{KeptBlock}
use Rattle.trace_run.proofs.DeviceLemmas.{lent-same, lent-then}
use Rattle.trace_run.proofs.group.take_all_back.Goals as goal

on-ok : {T E : Type 0} (r : Result T E) (P : Type 0) → false ≡ is_err r → OnOk r P → P
on-ok (Ok x) P fine holds = holds
on-ok (Err e) P fine holds = absurd (false≢true fine)

-- one element goes from what is left to what was made
moved : {A B : Type 0} (f : A → B) (made then : List B) (x : A) (left rest : List A) (all : List B) → left ≡ x ∷ rest → then ≡ made ++ f x ∷ [] → made ++ map f left ≡ all → then ++ map f rest ≡ all
moved f made then x left rest all is grown before =
    ap (λ l. l ++ map f rest) grown ∙ (append_assoc made (f x ∷ []) (map f rest) ∙ (ap (λ l. made ++ map f l) (sym is) ∙ before))

pub loop-caller-init : goal.loop-caller-init
loop-caller-init g c =
    let all : c.into_iter-caller-iterator.result.rest.items ≡ c.args.callers.items = c.into_iter-caller-iterator.ensures.into_iter_gives.0 in
    record {
      absorbs = λ q absorbs. subst (λ (l : List (Caller g.row.C.Denot g.row.P.Denot g.row.D.Denot)). AbsorbsAll g.P.Pool (map (λ caller. caller.pool) l) c.args.pool.now q) all absorbs;
      back = λ q back. subst (λ (l : List (Caller g.row.C.Denot g.row.P.Denot g.row.D.Denot)). TakesForksBack g.D.CacheDev (map (λ caller. caller.device) l) (lent_in c.args.device.now) q) all back;
      lent = lent-same g.D.CacheDev c.args.device.now;
      replied = λ fine replies replied.
          subst (λ (x : List (Vec Reply Global) × List (Caller g.row.C.Denot g.row.P.Denot g.row.D.Denot)). AllReplied x.1 (map (λ v. v.items) x.0 ++ replies)) (λ h. (sym c.new-3.ensures.items h, all h)) replied;
      parties = λ fine. ap (λ (l : List (Place (Known g.row.C.Denot))). l ++ map (λ caller. caller.party) c.into_iter-caller-iterator.result.rest.items) c.new.ensures.items ∙ ap (map (λ (caller : Caller g.row.C.Denot g.row.P.Denot g.row.D.Denot). caller.party)) all;
      keeps = λ fine. ap (λ (l : List (List KeptBlock)). l ++ map (λ caller. caller.kept) c.into_iter-caller-iterator.result.rest.items) c.new-2.ensures.items ∙ ap (map (λ (caller : Caller g.row.C.Denot g.row.P.Denot g.row.D.Denot). caller.kept)) all;
    }

pub loop-caller-preserved : goal.loop-caller-preserved
loop-caller-preserved g c =
    let rest : List (Caller g.row.C.Denot g.row.P.Denot g.row.D.Denot) = c.next.new.self.rest.items in
    let is : c.loop-caller.caller-iterator.rest.items ≡ c.in-Some.caller ∷ rest = c.in-Some.ensures.steps.0 in
    let before = c.loop-caller.invariant in
    let ok = c.if-is_err.ensures.value in
    let replied = on-ok c.take_back.result _ ok c.take_back.ensures.replied in
    let done : List (List Reply) = map (λ (v : Vec Reply Global). v.items) c.loop-caller.worked.replies.items in
    record {
      absorbs = λ q absorbs.
          before.absorbs q (subst (λ (l : List (Caller g.row.C.Denot g.row.P.Denot g.row.D.Denot)). AbsorbsAll g.P.Pool (map (λ caller. caller.pool) l) c.loop-caller.pool q) (sym is) (c.take_back.new.pool, c.take_back.ensures.absorbs, absorbs));
      back = λ q back.
          before.back q (subst (λ (l : List (Caller g.row.C.Denot g.row.P.Denot g.row.D.Denot)). TakesForksBack g.D.CacheDev (map (λ caller. caller.device) l) (lent_in c.loop-caller.device) q) (sym is)
          (lent_in c.take_back.new.device, c.take_back.ensures.back, back));
      lent = lent-then g.D.CacheDev c.args.device.now c.loop-caller.device c.take_back.new.device before.lent c.take_back.ensures.device;
      replied = λ fine replies more.
          subst (AllReplied c.args.callers.items) (sym (append_assoc done (replied.0 ∷ []) replies) ∙ ap (λ (l : List (List Reply)). l ++ replies) (sym replied.1))
          (before.replied fine (replied.0 ∷ replies) (subst (λ (l : List (Caller g.row.C.Denot g.row.P.Denot g.row.D.Denot)). AllReplied l (replied.0 ∷ replies)) (sym is) (replied.2, more)));
      parties = λ fine. moved (λ (caller : Caller g.row.C.Denot g.row.P.Denot g.row.D.Denot). caller.party) _ _ c.in-Some.caller _ rest _ is (on-ok c.take_back.result _ ok c.take_back.ensures.party) (before.parties fine);
      keeps = λ fine. moved (λ (caller : Caller g.row.C.Denot g.row.P.Denot g.row.D.Denot). caller.kept) _ _ c.in-Some.caller _ rest _ is (on-ok c.take_back.result _ ok c.take_back.ensures.kept) (before.keeps fine);
    }

-- a caller that was short of memory: its forks are taken back all the same
pub loop-caller-preserved-then-is_err : goal.loop-caller-preserved-then-is_err
loop-caller-preserved-then-is_err g c =
    let rest : List (Caller g.row.C.Denot g.row.P.Denot g.row.D.Denot) = c.next.new.self.rest.items in
    let is : c.loop-caller.caller-iterator.rest.items ≡ c.in-Some.caller ∷ rest = c.in-Some.ensures.steps.0 in
    let before = c.loop-caller.invariant in
    record {
      absorbs = λ q absorbs.
          before.absorbs q (subst (λ (l : List (Caller g.row.C.Denot g.row.P.Denot g.row.D.Denot)). AbsorbsAll g.P.Pool (map (λ caller. caller.pool) l) c.loop-caller.pool q) (sym is) (c.take_back.new.pool, c.take_back.ensures.absorbs, absorbs));
      back = λ q back.
          before.back q (subst (λ (l : List (Caller g.row.C.Denot g.row.P.Denot g.row.D.Denot)). TakesForksBack g.D.CacheDev (map (λ caller. caller.device) l) (lent_in c.loop-caller.device) q) (sym is)
          (lent_in c.take_back.new.device, c.take_back.ensures.back, back));
      lent = lent-then g.D.CacheDev c.args.device.now c.loop-caller.device c.take_back.new.device before.lent c.take_back.ensures.device;
      replied = λ fine replies more. absurd (false≢true (sym fine));
      parties = λ fine. absurd (false≢true (sym fine));
      keeps = λ fine. absurd (false≢true (sym fine));
    }

pub returns-clause-came : goal.returns-clause-came
returns-clause-came g c =
    let none : c.loop-caller.caller-iterator.rest.items ≡ [] = nothing_left c.loop-caller.caller-iterator.rest.items (let a = c.in-None.ensures.steps.0 in let b = c.loop-caller.caller-iterator.rest.ok in omega arith) in
    let end = c.loop-caller.invariant in
    let fine = c.if-short.false in
    let lists : List (List Reply) = map (λ (v : Vec Reply Global). v.items) c.loop-caller.worked.replies.items in
    record {
      replied = subst (AllReplied c.args.callers.items) (append-nil lists) (end.replied fine [] (subst (λ (l : List (Caller g.row.C.Denot g.row.P.Denot g.row.D.Denot)). AllReplied l []) (sym none) tt));
      parties = sym (append-nil c.loop-caller.worked.parties.items)
          ∙ (ap (λ (l : List (Caller g.row.C.Denot g.row.P.Denot g.row.D.Denot)). c.loop-caller.worked.parties.items ++ map (λ caller. caller.party) l) (sym none) ∙ end.parties fine);
      keeps = sym (append-nil c.loop-caller.worked.kept.items)
          ∙ (ap (λ (l : List (Caller g.row.C.Denot g.row.P.Denot g.row.D.Denot)). c.loop-caller.worked.kept.items ++ map (λ caller. caller.kept) l) (sym none) ∙ end.keeps fine);
    }
