mod ListLemmas
mod SizeLemmas
