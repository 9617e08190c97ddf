use Rattle.rows.proofs.FollowerSteps.{rest-begins, long-ended, long_hyphen, long_apart, long_rest}
use borrow.Author.Rules.{rules}
use Rattle.rows.proofs.long_name_formed.Goals as goal

pub returns-then-t-p-eq0 : goal.returns-then-t-p-eq0
returns-then-t-p-eq0 c = search long-ended

pub returns-then-t-p-eq45 : goal.returns-then-t-p-eq45
returns-then-t-p-eq45 c = search long_hyphen

pub returns-then-not-follows : goal.returns-then-not-follows
returns-then-not-follows c = search long_apart

pub name_spelt-requires : goal.name_spelt-requires
name_spelt-requires c = record { whole = search rules; begins = search rest-begins }

pub returns : goal.returns
returns c = search long_rest
