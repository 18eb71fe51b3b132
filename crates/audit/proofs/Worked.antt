-- Document 01's worked job, computed: the search is no empty program. It accepts, scores all four chains, and answers row 0 with the whole haplotype;
-- and the program prints that answer for the job's bytes, in either edition.
use mathlib.Core.Path.{refl}
use lib.Ieee.{of_bits, to_bits, of_int, le, lt, eq, add, sub, mul, div}
use Rattle.metrics.specs.Letters.{code_of, number_of, read_by, all_read, first_window, windows_reading, windows_of, times_in, table_from, counts_reading, counts_of, counts_by}
use Rattle.metrics.specs.Similarity.{sum_by, magnitude_sum, overlaps_of}
use Rattle.paths.specs.Chains.{extends, extensions}
use Rattle.paths.specs.Search.{pick, after, scored, left}
use Rattle.paths.specs.Best.{best}
use Rattle.params.specs.Numbers.{first_fault, bad_k, bad_float, bad_number, any_below, start_after_end, falling_start, bad_size, bad_row, all_zero, empty_row, little_queue_room}
use Rattle.kplib.specs.Graph.{edge}
use Rattle.kplib.specs.Parts.{positions_from, choices, falling_lists, part_lists}
use Rattle.kplib.specs.Sums.{size_from, size_of, row_plus, zeros, features_from, features_of}
use Rattle.kplib.specs.Score.{list_score, greater_of, after_list, after_lists, total_score, chain_score}
use Rattle.kplib.specs.Search.{distance_to, result_of}
use Rattle.kplib.specs.Answer.{searched, answer_of, rows_of}
use Rattle.dive.specs.Numbered.{repeated_number, numbered_fault, numbered_answer, numbered_rows, records_at}
use Rattle.fields.specs.Fields.{le2, le4, le8, signed_of, word_of, bytes2, bytes4, bytes8}
use Rattle.form.specs.Settings40.{settings_in, number_bytes, float_bytes, settings_bytes}
use Rattle.form.specs.Settings41.{settings41_in, settings41_bytes}
use Rattle.form.specs.Form.{kind_of, body_len, in_place, flags_ok, count_of, pad_ok, too_many, fault_of, after as afterRecord, run}
use Rattle.form.specs.Job.{letters_in, letters_after, variant_of, part_of, variant_here, part_here, gather, to_first, haplotypes_here, haplotypes_in}
use Rattle.form.specs.Job.{settings_by, job_of, number_here, row_numbers, numbers_by, read_job}
use Rattle.form.specs.Job.{padded, letters_records, sequence_bytes, part_body, variant_body, settings_record, variant_record, variant_bytes, part_bytes, variants_bytes, parts_bytes}
use Rattle.form.specs.Job.{further_bytes, haplotypes_bytes, job_bytes}
use Rattle.text.specs.Text.{bytes_of, digits_within, hex_digit, hex2, hex4, hex8, number_line, float_line, flag_line, entry_text, entries_text, list_line}
use Rattle.text.specs.Text.{is_whole, similarity_lines, reach_lines, eight_lines, refused_text, hap_text, answer_text}
use Rattle.desk.specs.Desk.{variant_features, part_features, table_of_job, parts_of_haplotype, many_parts, too_large, haplotype_text, whole_fault, blocks_text, haplotypes_text}
use Rattle.desk.specs.Desk.{job_text, read_text, desk_text}
use Rattle.audit.specs.Worked.{Worked}

pub worked : Worked
unfolding answer_of rows_of searched first_fault bad_k bad_float bad_number any_below start_after_end falling_start bad_size bad_row all_zero empty_row little_queue_room magnitude_sum
    best result_of scored left after
    pick extensions extends edge overlaps_of distance_to size_of size_from positions_from chain_score total_score after_lists after_list list_score greater_of part_lists falling_lists choices
    features_of features_from row_plus zeros sum_by code_of number_of read_by all_read first_window windows_reading windows_of times_in table_from counts_reading counts_of counts_by
    le2 le4 le8 signed_of word_of bytes2 bytes4 bytes8 settings_in number_bytes float_bytes
    settings_bytes kind_of body_len in_place flags_ok count_of pad_ok too_many fault_of afterRecord run letters_in letters_after variant_of part_of variant_here part_here gather
    to_first haplotypes_here
    haplotypes_in job_of read_job padded letters_records sequence_bytes part_body variant_body variant_bytes part_bytes variants_bytes parts_bytes further_bytes haplotypes_bytes job_bytes bytes_of
    digits_within hex_digit hex2 hex4 hex8 number_line float_line flag_line entry_text entries_text list_line is_whole similarity_lines reach_lines eight_lines refused_text hap_text variant_features
    part_features table_of_job parts_of_haplotype answer_text many_parts too_large haplotype_text whole_fault blocks_text haplotypes_text job_text read_text desk_text le lt eq of_bits
    of_int div add sub
    mul to_bits repeated_number numbered_fault numbered_answer numbered_rows records_at row_numbers number_here numbers_by settings_by settings41_in settings41_bytes settings_record variant_record
worked = record { accepted = refl; order = refl; exact = refl; answer = refl; rows = refl; records = refl; printed = refl; second_edition = refl; several = refl }
