mod ScanLemmas
mod ExportLemmas
