use Rattle.std.proofs.Common.{◌≡◌, ℕ, ◌*◌, ◌^◌, ◌≤◌, sym, subst, arith}
use Rattle.trace_text.proofs.FormLemmas.{same-number, spell-cap}
use Rattle.trace_text.proofs.forms.capped.Goals as goal

pub returns-then-shards-c-gt-LARGEST_SIZE-clause-err : goal.returns-then-shards-c-gt-LARGEST_SIZE-clause-err
returns-then-shards-c-gt-LARGEST_SIZE-clause-err c = λ sized line said.
    let p = spell-cap c.args.seen.callers c.args.seen.shards c.args.fields.now line said in
    let bytes : p.0 ≡ c.in_ok-c.c = same-number p.0 c.in_ok-c.c p.3.0.most (let a = c.in_ok-c.ensures.2 in omega arith) p.2 c.in_ok-c.ensures.0 in
    let most : c.args.seen.shards * c.in_ok-c.c ≤ 2 ^ 32 = subst (λ (x : ℕ). c.args.seen.shards * x ≤ 2 ^ 32) bytes p.3.1 in
    let all : c.from-shards.result * c.in_ok-c.c ≤ 2 ^ 32 = subst (λ (x : ℕ). x * c.in_ok-c.c ≤ 2 ^ 32) (sym c.from-shards.ensures) most in
    absurd (omega (arith, all, c.if-shards-c-gt-LARGEST_SIZE.true))
