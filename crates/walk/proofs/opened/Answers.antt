use Rattle.walk.proofs.RawLaws.{first_in, first_fits, second_fits, short-fits, one-fits, one_sum_fits, two_fits, third-fits, third_in, two_in, two_sum_fits, short-start, one-start, two-start, short_next, one_next, one_in, two_next_is}
use Rattle.walk.proofs.opened.Goals as goal

pub overflow_add-at : goal.overflow_add-at
overflow_add-at c = record { fits = search first_fits }

pub bounds-v-at : goal.bounds-v-at
bounds-v-at c = search first_in

pub overflow_add-result : goal.overflow_add-result
overflow_add-result c = record { fits = search second_fits }

pub overflow_add-result-then-n-lt128 : goal.overflow_add-result-then-n-lt128
overflow_add-result-then-n-lt128 c = record { fits = search second_fits }

pub overflow_add-result-then-n-lt128-2 : goal.overflow_add-result-then-n-lt128-2
overflow_add-result-then-n-lt128-2 c = record { fits = search short-fits }

pub returns-then-n-lt128 : goal.returns-then-n-lt128
returns-then-n-lt128 c = record { start = search short-start; end = search short_next }

pub overflow_add-result-then-n-eq129 : goal.overflow_add-result-then-n-eq129
overflow_add-result-then-n-eq129 c = record { fits = search one-fits }

pub overflow_add-result-then-n-eq129-2 : goal.overflow_add-result-then-n-eq129-2
overflow_add-result-then-n-eq129-2 c = record { fits = search one-fits }

pub overflow_add-at-then-n-eq129 : goal.overflow_add-at-then-n-eq129
overflow_add-at-then-n-eq129 c = record { fits = search second_fits }

pub bounds-v-at-then-n-eq129 : goal.bounds-v-at-then-n-eq129
bounds-v-at-then-n-eq129 c = search one_in

pub overflow_add-result-then-n-eq129-3 : goal.overflow_add-result-then-n-eq129-3
overflow_add-result-then-n-eq129-3 c = record { fits = search one_sum_fits }

pub returns-then-n-eq129 : goal.returns-then-n-eq129
returns-then-n-eq129 c = record { start = search one-start; end = search one_next }

pub overflow_add-result-2 : goal.overflow_add-result-2
overflow_add-result-2 c = record { fits = search two_fits }

pub overflow_add-result-3 : goal.overflow_add-result-3
overflow_add-result-3 c = record { fits = search two_fits }

pub overflow_add-at-2 : goal.overflow_add-at-2
overflow_add-at-2 c = record { fits = search second_fits }

pub bounds-v-at-2 : goal.bounds-v-at-2
bounds-v-at-2 c = search third_in

pub overflow_add-at-3 : goal.overflow_add-at-3
overflow_add-at-3 c = record { fits = search third-fits }

pub bounds-v-at-3 : goal.bounds-v-at-3
bounds-v-at-3 c = search two_in

pub overflow_add-result-4 : goal.overflow_add-result-4
overflow_add-result-4 c = record { fits = search two_sum_fits }

pub returns : goal.returns
returns c = record { start = search two-start; end = search two_next_is }
