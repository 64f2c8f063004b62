-- Lines and reports made by hand.
use Rattle.std.proofs.Common.{◌≡◌, [], ◌∷◌, codes, refl}
use Rattle.std.specs.Fmt.{digits}
use Rattle.snss_frames.specs.Frame.{marker}
use Rattle.snss_frames.specs.declared.ending.Ending.TheVariants.{EmptyCommand, CutBody}
use Rattle.snss_frames.specs.declared.header.Version.TheVariants.{One, Three}
use Rattle.snss_frames.specs.declared.header.HeaderFault.TheVariants.{BadSignature, Encrypted}
use Rattle.session_disk.specs.declared.family.Family.TheVariants.{Session, Tabs}
use Rattle.payload_words.specs.Words.{words}
use Rattle.file_reports.specs.FileReading.{TooShort, Foreign, Framed}
use Rattle.file_reports.specs.FileKinds.{hexadecimal, kind_of, kind_words}
use Rattle.file_reports.specs.Tallies.{raw_count, marker_at}
use Rattle.file_reports.specs.Lines.{header_line, frame_line, frame_lines, ending_line}
use Rattle.file_reports.specs.FileTexts.{check_text, show_text}

-- the signature
eight_digits : hexadecimal 1397968467 ≡ codes "53534e53"
unfolding hexadecimal
eight_digits = refl

an_empty_file : check_text Session (TooShort 0) ≡ codes "header short 0\n"
unfolding digits
an_empty_file = refl

a_foreign_file : show_text Session (Foreign (BadSignature 10)) ≡ codes "header bad-signature 0000000a\n"
unfolding hexadecimal
a_foreign_file = refl

an_encrypted_file : header_line (Foreign (Encrypted 4)) ≡ codes "header encrypted 4\n"
unfolding digits
an_encrypted_file = refl

-- a whole file of version 3 with the marker alone
a_marked_file : kind_words (kind_of (Framed Three (marker ∷ []) [])) ≡ codes "v3 marked"
a_marked_file = refl

its_counts : check_text Session (Framed Three (marker ∷ []) []) ≡ codes "header v3\ncommands 1 raw 0\nmarker at 8\nending whole\n"
unfolding raw_count marker_at digits
its_counts = refl

its_commands : show_text Tabs (Framed Three (marker ∷ []) []) ≡ codes "header v3\n8 255 0 marker\nending whole\n"
unfolding frame_lines frame_line words digits
its_commands = refl

-- one byte behind the header
a_half_size : check_text Tabs (Framed One [] (5 ∷ [])) ≡ codes "header v1\ncommands 0 raw 0\nmarker none\nending cut-size 8\n"
unfolding raw_count marker_at digits
a_half_size = refl

a_size_of_0 : ending_line (EmptyCommand 11) ≡ codes "ending empty 11\n"
unfolding digits
a_size_of_0 = refl

a_cut_frame : ending_line (CutBody 120 9 3) ≡ codes "ending cut-body 120 9 3\n"
unfolding digits
a_cut_frame = refl
