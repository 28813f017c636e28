mod ByForm
