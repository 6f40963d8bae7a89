-- The parts of a page's step, on the lists as the directory keeps them.
use Rattle.std.specs.Prelude.{ℕ, ◌+◌, ◌*◌, Bool, false, ◌&&◌, ◌==◌, nat_lt, nat_le, length, if◌then◌else◌}
use Rattle.arc_paper.specs.Arc.{takes_t1}
use Rattle.arc_paper.specs.Directory.{Lists, arc_of, count_of, demoted, shortened}
use Rattle.arc_paper.specs.declared.queue.Queue.TheVariants.{T1, T2, B1, B2}

-- what REPLACE leaves, for a page that is in B2 or not
abbrev pub replaced : Bool → ℕ → Lists → Lists
replaced in_b2 p d = if takes_t1 in_b2 (arc_of d p) then demoted T1 d else demoted T2 d

-- what is left once there is room for a page that is in no list
abbrev pub roomed_in_recent : ℕ → ℕ → Lists → Lists
roomed_in_recent c p d = if nat_lt (length d.t1) c then replaced false p (shortened B1 d) else shortened T1 d

abbrev pub roomed_in_all : ℕ → ℕ → Lists → Lists
roomed_in_all c p d = replaced false p (if count_of d == 2 * c then shortened B2 d else d)

abbrev pub roomed : ℕ → ℕ → Lists → Lists
roomed c p d =
    if length d.t1 + length d.b1 == c then roomed_in_recent c p d
    else if nat_lt (length d.t1 + length d.b1) c && nat_le c (count_of d) then roomed_in_all c p d else d
