-- What a computation with the definitions opens: `unfolding everything` opens all that is named here.
use mathlib.Core.List.{flat_map}
use Rattle.rules.specs.Basics.{first_of, sum, any, all, keep, below, ◌>>=◌, demand}
use Rattle.rules.specs.Number.{above, groups, stored_at, took, number, numbers, bytes_in, bytes_of, bytes_of_all}
use Rattle.rules.specs.Header.{automatic, principal, front_in_range, sizes_in_range, header_in_range, header_at, header_bytes}
use Rattle.rules.specs.Record.{fields_among, fields_of, known, following, field_count, fit_all, in_range, quote_fits, quotes_in, told, sound, all_sound, count_fits, record_sound, record_at, entry_bytes}
use Rattle.rules.specs.History.{and_then, happened, time_so_far, count, nth, since, sent_at, trade_at, satisfaction_at, before_trade, closing_begun, answers, names, withdraws, cancels, claims_for, takes_back, taken_back, still_claims}
use Rattle.rules.specs.Journal.{response_belongs, satisfaction_belongs, naming_belongs, cancellation_belongs, belongs, has_room, records_from, day_records, journal, records_bytes, journal_bytes}
use Rattle.rules.specs.Prices.{no_quote, quotes, standing, status_of, up_to, everyone, away, highest, lowest, best_bid, best_offer}
use Rattle.rules.specs.Verdicts.{crosses, locks, lowest_named, home_quote, sent_order, firm_size, no_duty, first_order, requotes, best_there, too_soon, still_limited, order_in, executes_whole, goes_on, period_of, received_order, through, side_through, throughs, is_block}
use Rattle.rules.specs.Reasons.{case_of, sender_quote, sender_side, customers, backs_away, fills_all, ends_excuse, excuses, had_sent, minutes_from, time_to_claim, late_by, sent_again_after, again_late, names_in_time, required, reason}
use Rattle.rules.specs.Due.{limited, least_of_three, claim, line_of, lines_of, lines, of_trade, customer_firm_size, capped, due_of, due, fair, share_rule}
use Rattle.rules.specs.OwnSheet.{line_bytes, sheet_bytes, no_later, is_next, at_first, give_one, give, own_shares, filled_at, own_fill, own_line, own_lines, own_sheet}
use Rattle.rules.specs.SheetCheck.{sheet_lines, beside, check_line, check_lines, shares_of, check_trade, check_trades, check_sheet}
use Rattle.rules.specs.GoodSheet.{fills_of_trade}
use Rattle.rules.specs.Totals.{sent_total, filled_total, cancelled_total, unanswered, pending_total, totals, day_totals}
use Rattle.rules.specs.PrintedDay.{ascii, digits, decimal, printed_line, judged, settled, shown, listed, first_line, day_text, refusal_text, printed_answer, printed_day}
use Rattle.rules.specs.Writing.{into, lent_after, write_header, write_record, read_record, rewrite_journal, write_sheet, write_day}
use Rattle.rules.specs.Only.{every_to, every_filling, same, filled_so, only_fills}

unfoldable pub everything : Unit {0}
unfolding flat_map first_of sum any all keep below ◌>>=◌ demand above groups stored_at took number numbers bytes_in bytes_of bytes_of_all automatic principal front_in_range sizes_in_range header_in_range header_at header_bytes fields_among fields_of known following field_count fit_all in_range quote_fits quotes_in told sound all_sound count_fits record_sound record_at entry_bytes and_then happened time_so_far count nth since sent_at trade_at satisfaction_at before_trade closing_begun answers names withdraws cancels claims_for takes_back taken_back still_claims response_belongs satisfaction_belongs naming_belongs cancellation_belongs belongs has_room records_from day_records journal records_bytes journal_bytes no_quote quotes standing status_of up_to everyone away highest lowest best_bid best_offer crosses locks lowest_named home_quote sent_order firm_size no_duty first_order requotes best_there too_soon still_limited order_in executes_whole goes_on period_of received_order through side_through throughs is_block case_of sender_quote sender_side customers backs_away fills_all ends_excuse excuses had_sent minutes_from time_to_claim late_by sent_again_after again_late names_in_time required reason limited least_of_three claim line_of lines_of lines of_trade customer_firm_size capped due_of due fair share_rule line_bytes sheet_bytes no_later is_next at_first give_one give own_shares filled_at own_fill own_line own_lines own_sheet sheet_lines beside check_line check_lines shares_of check_trade check_trades check_sheet fills_of_trade sent_total filled_total cancelled_total unanswered pending_total totals day_totals ascii digits decimal printed_line judged settled shown listed first_line day_text refusal_text printed_answer printed_day into lent_after write_header write_record read_record rewrite_journal write_sheet write_day every_to every_filling same filled_so only_fills
everything = tt
