use Rattle.table.proofs.PassSteps.{of-kind, of-member, of-list, of_basic}
use borrow.Author.Rules.{rules}
use Rattle.table.proofs.one_row.Goals as goal

pub member_row-requires : goal.member_row-requires
member_row-requires c = record { next = search rules; member = search of-member }

pub sequence_row-requires : goal.sequence_row-requires
sequence_row-requires c = record { next = search rules; sequence = search of-kind }

pub choice_row-requires : goal.choice_row-requires
choice_row-requires c = record { next = search rules; choice = search of-kind }

pub list_row-requires : goal.list_row-requires
list_row-requires c = record { next = search rules; list = search of-list }

pub basic_row-requires : goal.basic_row-requires
basic_row-requires c = record { next = search rules; basic = search of_basic }
