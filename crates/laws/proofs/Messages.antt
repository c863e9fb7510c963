-- Sheets and prefixes as bytes, what loading does, and the program `follow`: the laws.
use Rattle.laws.specs.Messages.{PrefixLaws, SheetLaws, LoadLaw, FollowLaws}
use Rattle.laws.proofs.Following.{all_counted, reads_all, shrinks, fits}
use Rattle.laws.proofs.Loads.{loads}
use Rattle.laws.proofs.Sheets.{prefix_reads_back, prefix_different, sheet_reads_back}
use Rattle.laws.proofs.Written.{prefix_read_is_written, sheet_was_read}

pub prefix_laws : PrefixLaws
prefix_laws =
    record {
      reads_back = prefix_reads_back;
      read_is_written = prefix_read_is_written;
      different = prefix_different;
    }

pub sheet_laws : SheetLaws
sheet_laws =
    record {
      reads_back = sheet_reads_back;
      number_small = λ W plan message s h. (sheet_was_read W plan message s h).number_small;
      routes_ascend = λ W plan message s h. (sheet_was_read W plan message s h).ascending;
      routes_in_range = λ W plan message s h. (sheet_was_read W plan message s h).in_range;
      read_is_written = λ W plan message s o h. (sheet_was_read W plan message s h).written o;
    }

pub follow_laws : FollowLaws
follow_laws =
    record {
      all_counted = all_counted;
      reads_all = reads_all;
      shrinks = shrinks;
      fits = fits;
    }

pub load_law : LoadLaw
load_law = loads
